use Rattle.std.proofs.Common.{sym, subst}
use Rattle.std.specs.List.Sorted.{IsStrictlySortedBy}
use Rattle.ordered_lists.specs.Lists.{by_key}
use Rattle.ordered_lists.proofs.PairLemmas.{pairs_ascend}
use Rattle.sorted_vector_map.proofs.map.SortedVectorMap.try_from_btree_map.Goals as goal

pub invariant_of-result : goal.invariant_of-result
invariant_of-result g c = subst (IsStrictlySortedBy (by_key g.K.Ord.cmp)) (sym c.in_ok-items.ensures.pairs) (pairs_ascend g.K.Ord.cmp _ c.in_ok-items.ensures.ascending)
