use Rattle.std.proofs.Common.{sym, subst}
use Rattle.std.specs.List.Sorted.{IsStrictlySortedBy}
use Rattle.sorted_vector_set.proofs.set.SortedVectorSet.try_from_btree_set.Goals as goal

pub invariant_of-result : goal.invariant_of-result
invariant_of-result g c = subst (IsStrictlySortedBy g.T.Ord.cmp) (sym c.in_ok-items.ensures.items) c.in_ok-items.ensures.ascending
