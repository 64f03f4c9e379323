use Rattle.std.specs.List.Sorted.{IsStrictlySortedBy}
use Rattle.sorted_vector_map.proofs.map.SortedVectorMap.open_anew.Goals as goal

pub invariant_of-self : goal.invariant_of-self
unfolding IsStrictlySortedBy
invariant_of-self g c = rw (c.replace.ensures.after, c.in-Ok.ensures.items) tt
