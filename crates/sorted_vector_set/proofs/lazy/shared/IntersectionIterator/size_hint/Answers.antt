use Rattle.std.proofs.Common.{arith}
use Rattle.sorted_vector_set.proofs.LazyLemmas.{intersection_within}
use Rattle.sorted_vector_set.proofs.lazy.shared.IntersectionIterator.size_hint.Goals as goal

pub returns-clause-upper : goal.returns-clause-upper
returns-clause-upper g c =
    let within = (intersection_within g.met.T.Ord.total _ _ c.self.invariant.0.ascends c.self.invariant.1.ascends).1 in
    rw (← c.self.view_is) (tt, omega (arith, within, c.min.ensures, c.count_left-own.ensures, c.count_left-other.ensures))
