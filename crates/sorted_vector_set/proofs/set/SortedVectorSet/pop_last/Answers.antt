use Rattle.ordered_lists.proofs.CutLemmas.{take_ascends}
use Rattle.sorted_vector_set.proofs.set.SortedVectorSet.pop_last.Goals as goal

pub invariant_of-self : goal.invariant_of-self
invariant_of-self g c = rw c.pop.ensures.rest (take_ascends g.T.Ord.cmp _ _ c.self.invariant)
