-- The iterator of a sorted map, which contracts see as the list of what it has left, is in order by key.
use Rattle.std.proofs.Common.{◌≡◌, List, sym, subst}
use Rattle.std.specs.List.Sorted.{IsStrictlySortedBy}
use Rattle.std.specs.Map.Iter.{TakesFirst, deref_pair}
use Rattle.std.specs.declared.cmp.Ordering.{Ordering}
use Rattle.ordered_lists.specs.Joins.{keys}
use Rattle.ordered_lists.specs.Lists.{by_key}
use Rattle.ordered_lists.proofs.PairLemmas.{keys_ascend}
use Rattle.sorted_iter.specs.Orders.{InOrder}
use Rattle.sorted_pairs.specs.MarkLaws.{shown-in_order}

pub in_order-of_pairs : {K V : Type 0} (cmp : K → K → Ordering) (left ps : List (K × V)) → left ≡ ps → IsStrictlySortedBy (by_key cmp) ps → InOrder (λ x y. cmp (deref_pair {K = K} {X = V} x).0 (deref_pair {K = K} {X = V} y).0) (TakesFirst deref_pair) left
in_order-of_pairs cmp left ps e h = shown-in_order deref_pair cmp left (subst (λ l. IsStrictlySortedBy cmp (keys l)) (sym e) (keys_ascend cmp ps h))
