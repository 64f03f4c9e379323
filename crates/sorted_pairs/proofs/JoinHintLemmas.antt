-- Hints bound what is to come from a join: how long the four joins are.
use Rattle.std.proofs.Common.{◌≡◌, suc, ◌≤◌, List, [], ◌∷◌, map, length, Option, None, refl, sym, ap, subst, ◌∙◌, arith}
use Rattle.std.specs.Iterator.{Count}
use Rattle.std.specs.Cmp.{IsTotalOrder}
use Rattle.std.specs.List.Sorted.{IsStrictlySortedBy}
use Rattle.std.specs.declared.cmp.Ordering.{Ordering}
use Rattle.ordered_lists.specs.Joins.{keys, join, left_join, right_join, outer_join}
use Rattle.ordered_lists.specs.Lists.{by_key, union}
use Rattle.ordered_lists.proofs.PairLemmas.{keys_ascend}
use Rattle.ordered_lists.proofs.PlaceLemmas.{by_order}
use Rattle.ordered_lists.proofs.WalkLemmas.{walk-union}
use Rattle.sorted_iter.specs.declared.sides.Sides.{Sides}
use Rattle.sorted_iter.specs.Hints.{Hint, IsHint, Bounds, ahead_hint, union_hint, intersection_hint}
use Rattle.sorted_iter.proofs.HintLemmas.{sum-bounds, lesser-bounds, falls, ahead-bounds, UnionLength, union-length}
use Rattle.sorted_pairs.specs.JoinHints.{IsJoinHint, left_hint, right_hint}
use Rattle.sorted_pairs.specs.MatchLaws.{join-walk}
use Rattle.sorted_pairs.specs.Matches.{read_all, item_of_both, join_walk}

same-length : {A B : Type 0} (view : A → B) (xs : List A) → length (map view xs) ≡ length xs
same-length view [] = refl
same-length view (x ∷ xs) = ap suc (same-length view xs)

-- a hint of a side that isn't asked for one
pub no-hint : (c : Count) → (h : Hint) × IsHint c h
no-hint c = ((0, None), ((λ _. omega arith), tt))

-- a list of the same length has the same bounds
bounds-same : {A B : Type 0} (a : Hint) (xs : List A) (zs : List B) → length zs ≡ length xs → Bounds a xs → Bounds a zs
bounds-same a xs zs e b = let l = b.0 in (omega arith, falls a.1 (length zs) (length xs) (omega arith) b.1)

module _ {K V W : Type 0} (cmp : K → K → Ordering) where
  -- the join has no more items than either list
  pub record IsWithinBoth (xs : List (K × V)) (ys : List (K × W)) (zs : List (K × (V × W))) : Type 0 where
    pub left : length zs ≤ length xs
    pub right : length zs ≤ length ys

  within-from : (x : K × V) (xs : List (K × V)) → ((ys : List (K × W)) → IsWithinBoth xs ys (join_walk cmp xs ys)) → (ys : List (K × W)) → IsWithinBoth (x ∷ xs) ys (join_walk cmp (x ∷ xs) ys)
  within-from x xs h [] = record { left = omega arith; right = omega arith }
  within-from x xs h (y ∷ ys) = by_order (λ l. IsWithinBoth (x ∷ xs) (y ∷ ys) (read_all item_of_both l)) (cmp x.0 y.0) _ _ _
      (λ k. let m = h (y ∷ ys) in let i = m.left in let j = m.right in record { left = omega arith; right = omega arith })
      (λ k. let m = h ys in let i = m.left in let j = m.right in record { left = omega arith; right = omega arith })
      (λ k. let m = within-from x xs h ys in let i = m.left in let j = m.right in record { left = omega arith; right = omega arith })

  within-both : (xs : List (K × V)) (ys : List (K × W)) → IsWithinBoth xs ys (join_walk cmp xs ys)
  within-both [] ys = record { left = omega arith; right = omega arith }
  within-both (x ∷ xs) ys = within-from x xs (within-both xs) ys

module _ {K V W : Type 0} {cmp : K → K → Ordering} (o : IsTotalOrder cmp) (a b : Hint) (xs : List (K × V)) (ys : List (K × W)) (s : IsStrictlySortedBy (by_key cmp) xs) (t : IsStrictlySortedBy (by_key cmp) ys) (l : Bounds a xs) (r : Bounds b ys) where
  pub join-bounds : Bounds (intersection_hint a b) (join cmp xs ys)
  join-bounds =
      let k = subst (IsWithinBoth cmp xs ys) (join-walk o xs ys s t) (within-both cmp xs ys) in
      (omega arith, lesser-bounds a.1 b.1 (length (join cmp xs ys)) (falls a.1 (length (join cmp xs ys)) (length xs) k.left l.1) (falls b.1 (length (join cmp xs ys)) (length ys) k.right r.1))

  pub left_join-bounds : Bounds (left_hint a b) (left_join cmp xs ys)
  left_join-bounds = bounds-same a xs (left_join cmp xs ys) (same-length _ xs) l

  pub right_join-bounds : Bounds (right_hint a b) (right_join cmp xs ys)
  right_join-bounds = bounds-same b ys (right_join cmp xs ys) (same-length _ ys) r

  pub outer_join-bounds : Bounds (union_hint a b) (outer_join cmp xs ys)
  outer_join-bounds =
      let same : length (outer_join cmp xs ys) ≡ length (union cmp (keys xs) (keys ys)) = same-length _ (union cmp (keys xs) (keys ys)) in
      let k = subst (UnionLength (keys xs) (keys ys)) (walk-union o (keys xs) (keys ys) (keys_ascend cmp xs s) (keys_ascend cmp ys t)) (union-length cmp (keys xs) (keys ys)) in
      let i = k.left in
      let j = k.right in
      let n = k.all in
      let p = same-length {A = K × V} (λ q. q.0) xs in
      let q = same-length {A = K × W} (λ q. q.0) ys in
      let u = l.0 in
      let v = r.0 in
      (omega arith, sum-bounds a.1 b.1 (length xs) (length ys) (length (outer_join cmp xs ys)) l.1 r.1 (omega arith))

module _ {U S T K V W C : Type 0} {sides : U → Sides S T (K × V) (K × W)} (cmp : K → K → Ordering) (f : List (K × V) → List (K × W) → List C) (combine : Hint → Hint → Hint) {count : S → Count} {firsts : S → Option (K × V) → S → Type 0} {count' : T → Count}
    {seconds : T → Option (K × W) → T → Type 0} (bound : (a b : Hint) (xs : List (K × V)) (ys : List (K × W)) → IsStrictlySortedBy (by_key cmp) xs → IsStrictlySortedBy (by_key cmp) ys → Bounds a xs → Bounds b ys → Bounds (combine a b) (f xs ys)) (s : U) where
  pub joined-hint : {l r hint : Hint} → (h : Hint) × IsHint (count (sides s).left.source) h × (l ≡ ahead_hint (sides s).left.head h) → (h : Hint) × IsHint (count' (sides s).right.source) h × (r ≡ ahead_hint (sides s).right.head h) → hint ≡ combine l r
      → IsJoinHint sides cmp f combine count firsts count' seconds s hint
  joined-hint {l} {r} {hint} a b e =
      let is : hint ≡ combine (ahead_hint (sides s).left.head a.0) (ahead_hint (sides s).right.head b.0) = e ∙ ap (λ z. combine z r) a.2 ∙ ap (combine (ahead_hint (sides s).left.head a.0)) b.2 in
      record {
        first = a.0;
        second = b.0;
        first_kept = a.1;
        second_kept = b.1;
        is = is;
        bounds = λ xs ys v w c d i j.
            let k = bound _ _ xs ys c d (ahead-bounds (sides s).left.head a.0 xs v.rest v.is v.at_end i) (ahead-bounds (sides s).right.head b.0 ys w.rest w.is w.at_end j) in
            subst (λ z. Bounds z (f xs ys)) (sym is) k;
      }
