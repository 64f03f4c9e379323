use Rattle.ordered_lists.specs.Lists.{by_key}
use Rattle.ordered_lists.proofs.CutLemmas.{take_ascends}
use Rattle.sorted_vector_map.proofs.map.SortedVectorMap.pop_last.Goals as goal

pub invariant_of-self : goal.invariant_of-self
invariant_of-self g c = rw c.pop.ensures.rest (take_ascends (by_key g.K.Ord.cmp) _ _ c.self.invariant)
