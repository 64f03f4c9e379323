use Rattle.std.proofs.Common.{arith}
use Rattle.sorted_vector_set.proofs.LazyLemmas.{union_within, union_upto}
use Rattle.sorted_vector_set.proofs.lazy.either.UnionIterator.size_hint.Goals as goal

pub returns-clause-lower : goal.returns-clause-lower
returns-clause-lower g c =
    let within = (union_within g.met.T.Ord.total _ _ c.self.invariant.0.ascends c.self.invariant.1.ascends).0 in
    rw (← c.self.view_is) (λ _. omega (arith, within, c.max.ensures, c.count_left-own.ensures, c.count_left-other.ensures))

pub returns-clause-upper : goal.returns-clause-upper
returns-clause-upper g c =
    rw (← c.self.view_is) (union_upto g.met.T.Ord.total _ _ c.self.invariant.0.ascends c.self.invariant.1.ascends (rw (c.sum_of.ensures, c.count_left-own.ensures, c.count_left-other.ensures)))
