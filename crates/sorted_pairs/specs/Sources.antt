-- When a source of pairs is in order, and when its clones give what it gives: what a caller cites at `assume_sorted_by_key` and at
-- `try_clone`.
use Rattle.std.proofs.Common.{sym, subst}
use Rattle.std.specs.Iterator.{Count, IsFinite}
use Rattle.std.specs.Iterator.Adapters.{copied_steps, copied_source}
use Rattle.std.specs.Slice.Iter.{iter_rest, iter_steps}
use Rattle.std.specs.List.Sorted.{IsStrictlySortedBy}
use Rattle.std.specs.Prelude.{◌≡◌, ℕ, List, take, drop}
use Rattle.std.specs.Vec.Iter.{into_iter_steps, into_iter_items}
use Rattle.std.specs.declared.cmp.Ordering.{Ordering}
use Rattle.std.specs.declared.iter.Copied.{Copied}
use Rattle.std.specs.declared.slice.Iter.{Iter}
use Rattle.std.specs.declared.vec.IntoIter.{IntoIter}
use Rattle.ordered_lists.specs.Joins.{keys}
use Rattle.ordered_lists.specs.Lists.{by_key}
use Rattle.ordered_lists.proofs.CutLemmas.{drop_ascends, take_ascends}
use Rattle.ordered_lists.proofs.PairLemmas.{keys_ascend, pairs_ascend}
use Rattle.sorted_iter.specs.CloneSources.{clones-of_slice}
use Rattle.sorted_iter.specs.Copies.{ClonesGoAlike}
use Rattle.sorted_iter.specs.Orders.{InOrder}
use Rattle.sorted_iter.specs.Sources.{InOrder-from_copied, InOrder-from_into_iter}
use Rattle.sorted_pairs.specs.declared.assumed.AssumeSortedByKey.{AssumeSortedByKey}
use Rattle.sorted_pairs.specs.AssumedStreams.{assumed_source, assumed_steps}

-- `iter().copied()` of a slice of pairs, handed to `assume_sorted_by_key`
pub clones-of_listed : {X : Type 0} (can : AssumeSortedByKey (Copied (Iter X)) → Type 0) (left : AssumeSortedByKey (Copied (Iter X))
    → Count) → ((s t : AssumeSortedByKey (Copied (Iter X))) → can s → can t)
    → ((s t : AssumeSortedByKey (Copied (Iter X))) → IsFinite (left s) → IsFinite (left t))
    → ClonesGoAlike (λ s t. iter_rest (copied_source (assumed_source t)) ≡ iter_rest (copied_source (assumed_source s))) can left
    (assumed_steps (copied_steps (iter_steps {A = X})))
clones-of_listed = clones-of_slice (λ s. copied_source (assumed_source s))

-- `iter().copied()` of a slice of pairs
pub InOrder-from_copied_pairs : {K V : Type 0} (cmp : K → K → Ordering) (it : Copied (Iter (K × V))) (ps : List (K × V))
    → iter_rest (copied_source it) ≡ ps → IsStrictlySortedBy (by_key cmp) ps
    → InOrder (by_key cmp) (copied_steps (iter_steps {A = K × V})) it
InOrder-from_copied_pairs cmp it ps e h = InOrder-from_copied (by_key cmp) it ps e h

-- `into_iter` of a vector of pairs
pub InOrder-from_pairs : {K V Z : Type 0} (cmp : K → K → Ordering) (it : IntoIter (K × V) Z) (ps : List (K × V)) → into_iter_items it ≡ ps
    → IsStrictlySortedBy (by_key cmp) ps → InOrder (by_key cmp) (into_iter_steps {X = K × V} {Z = Z}) it
InOrder-from_pairs cmp it ps e h = InOrder-from_into_iter (by_key cmp) it ps e h

-- pairs that stand next to each other in a map whose keys ascend, as those of `range` of a `BTreeMap`
pub run-ascends : {K V : Type 0} (cmp : K → K → Ordering) (all ps : List (K × V)) → (i : ℕ) × (n : ℕ) × (ps ≡ take n (drop i all))
    → IsStrictlySortedBy cmp (keys all) → IsStrictlySortedBy cmp (keys ps)
run-ascends cmp all ps r h = keys_ascend cmp ps (subst (IsStrictlySortedBy (by_key cmp)) (sym r.2)
    (take_ascends (by_key cmp) r.1 (drop r.0 all) (drop_ascends (by_key cmp) r.0 all (pairs_ascend cmp all h))))

pub ruleset sources = (InOrder-from_copied_pairs, InOrder-from_pairs)
