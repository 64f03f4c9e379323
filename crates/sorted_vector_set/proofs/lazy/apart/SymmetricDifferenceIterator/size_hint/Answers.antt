use Rattle.sorted_vector_set.proofs.LazyLemmas.{apart_upto}
use Rattle.sorted_vector_set.proofs.lazy.apart.SymmetricDifferenceIterator.size_hint.Goals as goal

pub returns-clause-upper : goal.returns-clause-upper
returns-clause-upper g c =
    rw (← c.self.view_is) (apart_upto g.met.T.Ord.total _ _ c.self.invariant.0.ascends c.self.invariant.1.ascends (rw (c.sum_of.ensures, c.count_left-own.ensures, c.count_left-other.ensures)))
