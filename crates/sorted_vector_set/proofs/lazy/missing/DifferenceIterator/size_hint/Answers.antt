use Rattle.std.proofs.Common.{arith}
use Rattle.sorted_vector_set.proofs.LazyLemmas.{difference_within}
use Rattle.sorted_vector_set.proofs.lazy.missing.DifferenceIterator.size_hint.Goals as goal

pub returns-clause-lower : goal.returns-clause-lower
returns-clause-lower g c =
    let within = (difference_within g.met.T.Ord.total _ _ c.self.invariant.0.ascends c.self.invariant.1.ascends).0 in
    rw (← c.self.view_is) (λ _. omega (arith, within, c.saturating_sub.ensures, c.count_left-own.ensures, c.count_left-other.ensures))

pub returns-clause-upper : goal.returns-clause-upper
returns-clause-upper g c =
    let within = (difference_within g.met.T.Ord.total _ _ c.self.invariant.0.ascends c.self.invariant.1.ascends).1 in
    rw (← c.self.view_is) (tt, omega (arith, within, c.count_left-own.ensures))
