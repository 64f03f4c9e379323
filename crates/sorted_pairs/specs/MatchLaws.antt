-- On lists that ascend by their keys the walk gives the four joins, and each of them ascends.
use Rattle.std.proofs.Common.{◌≡◌, true, List, [], ◌∷◌, map, Option, Some, None, refl, sym, ap, ap₂, subst, ◌∙◌}
use Rattle.std.specs.Cmp.{IsTotalOrder, tied_itself}
use Rattle.std.specs.List.{AllByRecursion}
use Rattle.std.specs.List.Sorted.{IsStrictlySortedBy}
use Rattle.std.specs.Ordering.{match_ordering, ordering_reverse}
use Rattle.std.specs.declared.cmp.Ordering.{Ordering}
use Rattle.std.specs.declared.cmp.Ordering.TheVariants.{Less, Equal, Greater}
use Rattle.ordered_lists.specs.Joins.{found, keys, left_join, right_join, having_both, if_both, join, outer_join}
use Rattle.ordered_lists.specs.Lists.{by_key}
use Rattle.ordered_lists.specs.Walks.{walk}
use Rattle.ordered_lists.proofs.PairLemmas.{keys_ascend, pairs_ascend}
use Rattle.ordered_lists.proofs.PlaceLemmas.{all_map, by_order, greater_less, equal_back}
use Rattle.ordered_lists.proofs.WalkLemmas.{ascends-walk, walk-union, ascends-union}
use Rattle.sorted_pairs.specs.declared.matching.EitherOrBoth.TheVariants.{Left, Right}
use Rattle.sorted_pairs.specs.Matches.{read_all, item_of_both, item_of_left, item_of_right, item_of_either, join_walk, left_join_walk, right_join_walk, outer_join_walk}

-- `by_order` of two things at once
by_order₂ : {B C : Type 0} (P : B → C → Type 0) (r : Ordering) (a b c : B) (d e f : C) → (r ≡ Less → P a d) → (r ≡ Equal → P b e)
    → (r ≡ Greater → P c f) → P (match_ordering r a b c) (match_ordering r d e f)
by_order₂ P Less a b c d e f g h i = g refl
by_order₂ P Equal a b c d e f g h i = h refl
by_order₂ P Greater a b c d e f g h i = i refl

module _ {K : Type 0} {cmp : K → K → Ordering} (o : IsTotalOrder cmp) where
  abbrev Above : {V : Type 0} → K → List (K × V) → Type 0
  Above {V} k ps = AllByRecursion (λ (p : K × V). cmp k p.0 ≡ Less) ps

  abbrev Ascends : {V : Type 0} → List (K × V) → Type 0
  Ascends = IsStrictlySortedBy (by_key cmp)

  less_greater : (x y : K) → cmp x y ≡ Less → cmp y x ≡ Greater
  less_greater x y h = o.antisymm y x ∙ ap ordering_reverse h

  below : {V : Type 0} (j k : K) (ps : List (K × V)) → cmp j k ≡ Less → Above k ps → Above j ps
  below j k ps h a = all_map (λ p. cmp k p.0 ≡ Less) (λ p. cmp j p.0 ≡ Less) (λ p l. o.trans j k p.0 h l) ps a

  level : {V : Type 0} (j k : K) (ps : List (K × V)) → cmp j k ≡ Equal → Above k ps → Above j ps
  level j k ps h a = all_map (λ p. cmp k p.0 ≡ Less) (λ p. cmp j p.0 ≡ Less) (λ p l. o.congr j k p.0 h ∙ l) ps a

  -- ---- what is found

  lacks : {V : Type 0} (k : K) (ps : List (K × V)) → Above k ps → found cmp ps k ≡ None
  lacks k [] a = refl
  lacks k (p ∷ ps) a = let e = less_greater k p.0 a.0 in rw e (lacks k ps a.1)

  passes : {V : Type 0} (p : K × V) (ps : List (K × V)) (k : K) → cmp p.0 k ≡ Less → found cmp (p ∷ ps) k ≡ found cmp ps k
  passes p ps k h = rw h refl

  meets : {V : Type 0} (p : K × V) (ps : List (K × V)) (k : K) → cmp p.0 k ≡ Equal → found cmp (p ∷ ps) k ≡ Some p.1
  meets p ps k h = rw h refl

  -- ---- keys

  all_keys : {X : Type 0} (k : K) (ps : List (K × X)) → Above k ps → AllByRecursion (λ j. cmp k j ≡ Less) (keys ps)
  all_keys k [] a = tt
  all_keys k (p ∷ ps) a = (a.0, all_keys k ps a.1)

  -- the keys behind the first one are above it
  first-below : (k : K) (ks ls : List K) → IsStrictlySortedBy cmp ls → ls ≡ k ∷ ks → AllByRecursion (λ j. cmp k j ≡ Less) ks
  unfolding IsStrictlySortedBy
  first-below k ks ls s e = (subst (IsStrictlySortedBy cmp) e s).0

  same-keys : {X : Type 0} (view : K → X) (ks : List K) → keys (map (λ k. (k, view k)) ks) ≡ ks
  same-keys view [] = refl
  same-keys view (k ∷ ks) = ap (λ l. k ∷ l) (same-keys view ks)

  -- pairs with the keys of others ascend where those do
  rekeyed : {X Y : Type 0} (view : K × X → Y) (ps : List (K × X)) → keys (map (λ p. (p.0, view p)) ps) ≡ keys ps
  rekeyed view [] = refl
  rekeyed view (p ∷ ps) = ap (λ l. p.0 ∷ l) (rekeyed view ps)

  rekeyed-ascends : {X Y : Type 0} (view : K × X → Y) (ps : List (K × X)) → Ascends ps → Ascends (map (λ p. (p.0, view p)) ps)
  rekeyed-ascends view ps s = pairs_ascend cmp _ (subst (IsStrictlySortedBy cmp) (sym (rekeyed view ps)) (keys_ascend cmp ps s))

  -- ---- the left join and the join

  module _ {V W : Type 0} where
    left-alone : (xs : List (K × V)) → read_all (item_of_left {W = W}) (map Left xs) ≡ left_join cmp xs []
    left-alone [] = refl
    left-alone (x ∷ xs) = ap (λ l. (x.0, (x.1, None)) ∷ l) (left-alone xs)

    -- a right item below all left ones has no part
    left-skips : (y : K × W) (ys : List (K × W)) (xs : List (K × V)) → Above y.0 xs → left_join cmp xs (y ∷ ys) ≡ left_join cmp xs ys
    left-skips y ys [] a = refl
    left-skips y ys (x ∷ xs) a = ap₂ (λ r l. (x.0, (x.1, r)) ∷ l) (passes y ys x.0 a.0) (left-skips y ys xs a.1)

    left-from : (x : K × V) (xs : List (K × V)) → Ascends (x ∷ xs)
        → ((ys : List (K × W)) → Ascends ys → left_join_walk cmp xs ys ≡ left_join cmp xs ys)
        → (ys : List (K × W)) → Ascends ys → left_join_walk cmp (x ∷ xs) ys ≡ left_join cmp (x ∷ xs) ys
    unfolding IsStrictlySortedBy
    left-from x xs s h [] t = left-alone (x ∷ xs)
    left-from x xs s h (y ∷ ys) t = by_order (λ l. read_all item_of_left l ≡ left_join cmp (x ∷ xs) (y ∷ ys)) (cmp x.0 y.0) _ _ _
        (λ k. ap₂ (λ r l. (x.0, (x.1, r)) ∷ l) (sym (lacks x.0 (y ∷ ys) (k, below x.0 y.0 ys k t.0))) (h (y ∷ ys) t))
        (λ k.
        let back = equal_back o x.0 y.0 k in
        ap₂ (λ r l. (x.0, (x.1, r)) ∷ l) (sym (meets y ys x.0 back)) (h ys t.1 ∙ sym (left-skips y ys xs (level y.0 x.0 xs back s.0))))
        (λ k. let l = greater_less o x.0 y.0 k in left-from x xs s h ys t.1 ∙ sym (left-skips y ys (x ∷ xs) (l, below y.0 x.0 xs l s.0)))

    pub left_join-walk : (xs : List (K × V)) (ys : List (K × W)) → Ascends xs → Ascends ys → left_join_walk cmp xs ys ≡ left_join cmp xs ys
    unfolding IsStrictlySortedBy
    left_join-walk [] ys s t = refl
    left_join-walk (x ∷ xs) ys s t = left-from x xs s (λ zs. left_join-walk xs zs s.1) ys t

    join-none : (xs : List (K × V)) → [] ≡ join {W = W} cmp xs []
    join-none [] = refl
    join-none (x ∷ xs) = join-none xs

    join-from : (x : K × V) (xs : List (K × V)) → Ascends (x ∷ xs)
        → ((ys : List (K × W)) → Ascends ys → join_walk cmp xs ys ≡ join cmp xs ys)
        → (ys : List (K × W)) → Ascends ys → join_walk cmp (x ∷ xs) ys ≡ join cmp (x ∷ xs) ys
    unfolding IsStrictlySortedBy
    join-from x xs s h [] t = join-none (x ∷ xs)
    join-from x xs s h (y ∷ ys) t = by_order (λ l. read_all item_of_both l ≡ join cmp (x ∷ xs) (y ∷ ys)) (cmp x.0 y.0) _ _ _
        (λ k. h (y ∷ ys) t ∙ ap (λ r. if_both x.0 x.1 r (join cmp xs (y ∷ ys))) (sym (lacks x.0 (y ∷ ys) (k, below x.0 y.0 ys k t.0))))
        (λ k.
        let back = equal_back o x.0 y.0 k in
        ap (λ l. (x.0, (x.1, y.1)) ∷ l) (h ys t.1 ∙ ap having_both (sym (left-skips y ys xs (level y.0 x.0 xs back s.0))))
        ∙ ap (λ r. if_both x.0 x.1 r (join cmp xs (y ∷ ys))) (sym (meets y ys x.0 back)))
        (λ k. let l = greater_less o x.0 y.0 k in join-from x xs s h ys t.1 ∙ ap having_both
        (sym (left-skips y ys (x ∷ xs) (l, below y.0 x.0 xs l s.0))))

    pub join-walk : (xs : List (K × V)) (ys : List (K × W)) → Ascends xs → Ascends ys → join_walk cmp xs ys ≡ join cmp xs ys
    unfolding IsStrictlySortedBy
    join-walk [] ys s t = refl
    join-walk (x ∷ xs) ys s t = join-from x xs s (λ zs. join-walk xs zs s.1) ys t

    -- ---- the right join

    right-alone : (ys : List (K × W)) → read_all (item_of_right {V = V}) (map Right ys) ≡ right_join cmp [] ys
    right-alone [] = refl
    right-alone (y ∷ ys) = ap (λ l. (y.0, (None, y.1)) ∷ l) (right-alone ys)

    right-skips : (x : K × V) (xs : List (K × V)) (ys : List (K × W)) → Above x.0 ys → right_join cmp (x ∷ xs) ys ≡ right_join cmp xs ys
    right-skips x xs [] a = refl
    right-skips x xs (y ∷ ys) a = ap₂ (λ r l. (y.0, (r, y.1)) ∷ l) (passes x xs y.0 a.0) (right-skips x xs ys a.1)

    right-from : (x : K × V) (xs : List (K × V)) → Ascends (x ∷ xs)
        → ((ys : List (K × W)) → Ascends ys → right_join_walk cmp xs ys ≡ right_join cmp xs ys)
        → (ys : List (K × W)) → Ascends ys → right_join_walk cmp (x ∷ xs) ys ≡ right_join cmp (x ∷ xs) ys
    unfolding IsStrictlySortedBy
    right-from x xs s h [] t = refl
    right-from x xs s h (y ∷ ys) t = by_order (λ l. read_all item_of_right l ≡ right_join cmp (x ∷ xs) (y ∷ ys)) (cmp x.0 y.0) _ _ _
        (λ k. h (y ∷ ys) t ∙ sym (right-skips x xs (y ∷ ys) (k, below x.0 y.0 ys k t.0)))
        (λ k. ap₂ (λ r l. (y.0, (r, y.1)) ∷ l) (sym (meets x xs y.0 k)) (h ys t.1 ∙ sym (right-skips x xs ys (level x.0 y.0 ys k t.0))))
        (λ k. let l = greater_less o x.0 y.0 k in ap₂ (λ r m. (y.0, (r, y.1)) ∷ m) (sym (lacks y.0 (x ∷ xs) (l, below y.0 x.0 xs l s.0)))
        (right-from x xs s h ys t.1))

    pub right_join-walk : (xs : List (K × V)) (ys : List (K × W)) → Ascends xs → Ascends ys
        → right_join_walk cmp xs ys ≡ right_join cmp xs ys
    unfolding IsStrictlySortedBy
    right_join-walk [] ys s t = right-alone ys
    right_join-walk (x ∷ xs) ys s t = right-from x xs s (λ zs. right_join-walk xs zs s.1) ys t

    -- ---- the outer join

    -- what the outer join has at a key
    abbrev at : List (K × V) → List (K × W) → K → K × (Option V × Option W)
    at xs ys k = (k, (found cmp xs k, found cmp ys k))

    skips-left : (x : K × V) (xs : List (K × V)) (ys : List (K × W)) (ks : List K) → AllByRecursion (λ k. cmp x.0 k ≡ Less) ks
        → map (at (x ∷ xs) ys) ks ≡ map (at xs ys) ks
    skips-left x xs ys [] a = refl
    skips-left x xs ys (k ∷ ks) a = ap₂ (λ r l. (k, (r, found cmp ys k)) ∷ l) (passes x xs k a.0) (skips-left x xs ys ks a.1)

    skips-right : (y : K × W) (ys : List (K × W)) (xs : List (K × V)) (ks : List K) → AllByRecursion (λ k. cmp y.0 k ≡ Less) ks
        → map (at xs (y ∷ ys)) ks ≡ map (at xs ys) ks
    skips-right y ys xs [] a = refl
    skips-right y ys xs (k ∷ ks) a = ap₂ (λ r l. (k, (found cmp xs k, r)) ∷ l) (passes y ys k a.0) (skips-right y ys xs ks a.1)

    outer-left : (xs : List (K × V)) → Ascends xs → read_all (item_of_either {W = W}) (map Left xs) ≡ map (at xs []) (keys xs)
    unfolding IsStrictlySortedBy
    outer-left [] s = refl
    outer-left (x ∷ xs) s = ap₂ (λ r l. (x.0, (r, None)) ∷ l) (sym (meets x xs x.0 (tied_itself o x.0)))
        (outer-left xs s.1 ∙ sym (skips-left x xs [] (keys xs) (all_keys x.0 xs s.0)))

    outer-right : (ys : List (K × W)) → Ascends ys → read_all (item_of_either {V = V}) (map Right ys) ≡ map (at [] ys) (keys ys)
    unfolding IsStrictlySortedBy
    outer-right [] s = refl
    outer-right (y ∷ ys) s = ap₂ (λ r l. (y.0, (None, r)) ∷ l) (sym (meets y ys y.0 (tied_itself o y.0)))
        (outer-right ys s.1 ∙ sym (skips-right y ys [] (keys ys) (all_keys y.0 ys s.0)))

    -- the keys of the walk
    abbrev both_keys : List (K × V) → List (K × W) → List K
    both_keys xs ys = walk cmp true true true (keys xs) (keys ys)

    abbrev outer_by_walk : List (K × V) → List (K × W) → List (K × (Option V × Option W))
    outer_by_walk xs ys = map (at xs ys) (both_keys xs ys)

    keys-below : (xs : List (K × V)) (ys : List (K × W)) (k : K) (ks : List K) → Ascends xs → Ascends ys → both_keys xs ys ≡ k ∷ ks
        → AllByRecursion (λ j. cmp k j ≡ Less) ks
    keys-below xs ys k ks s t e = first-below k ks (both_keys xs ys)
        (ascends-walk o true true true (keys xs) (keys ys) (keys_ascend cmp xs s) (keys_ascend cmp ys t)) e

    outer-from : (x : K × V) (xs : List (K × V)) → Ascends (x ∷ xs)
        → ((ys : List (K × W)) → Ascends ys → outer_join_walk cmp xs ys ≡ outer_by_walk xs ys)
        → (ys : List (K × W)) → Ascends ys → outer_join_walk cmp (x ∷ xs) ys ≡ outer_by_walk (x ∷ xs) ys
    unfolding IsStrictlySortedBy
    outer-from x xs s h [] t = outer-left (x ∷ xs) s
    outer-from x xs s h (y ∷ ys) t =
        let above = keys-below (x ∷ xs) (y ∷ ys) in
        by_order₂ (λ l ks. read_all item_of_either l ≡ map (at (x ∷ xs) (y ∷ ys)) ks) (cmp x.0 y.0) _ _ _ _ _ _
        (λ k.
        let ks = both_keys xs (y ∷ ys) in
        ap₂ (λ r l. (x.0, r) ∷ l) (ap₂ (λ a b. (a, b)) (sym (meets x xs x.0 (tied_itself o x.0)))
        (sym (lacks x.0 (y ∷ ys) (k, below x.0 y.0 ys k t.0))))
        (h (y ∷ ys) t ∙ sym (skips-left x xs (y ∷ ys) ks (above x.0 ks s t (rw k refl)))))
        (λ k.
        let back = equal_back o x.0 y.0 k in
        let ks = both_keys xs ys in
        let first = above x.0 ks s t (rw k refl) in
        let second = all_map (λ j. cmp x.0 j ≡ Less) (λ j. cmp y.0 j ≡ Less) (λ j l. o.congr y.0 x.0 j back ∙ l) ks first in
        ap₂ (λ r l. (x.0, r) ∷ l) (ap₂ (λ a b. (a, b)) (sym (meets x xs x.0 (tied_itself o x.0))) (sym (meets y ys x.0 back)))
        (h ys t.1 ∙ sym (skips-right y ys xs ks second) ∙ sym (skips-left x xs (y ∷ ys) ks first)))
        (λ k.
        let l = greater_less o x.0 y.0 k in
        let ks = both_keys (x ∷ xs) ys in
        ap₂ (λ r m. (y.0, r) ∷ m) (ap₂ (λ a b. (a, b)) (sym (lacks y.0 (x ∷ xs) (l, below y.0 x.0 xs l s.0)))
        (sym (meets y ys y.0 (tied_itself o y.0))))
        (outer-from x xs s h ys t.1 ∙ sym (skips-right y ys (x ∷ xs) ks (above y.0 ks s t (rw k refl)))))

    outer-walk : (xs : List (K × V)) (ys : List (K × W)) → Ascends xs → Ascends ys → outer_join_walk cmp xs ys ≡ outer_by_walk xs ys
    unfolding IsStrictlySortedBy
    outer-walk [] ys s t = outer-right ys t
    outer-walk (x ∷ xs) ys s t = outer-from x xs s (λ zs. outer-walk xs zs s.1) ys t

    pub outer_join-walk : (xs : List (K × V)) (ys : List (K × W)) → Ascends xs → Ascends ys
        → outer_join_walk cmp xs ys ≡ outer_join cmp xs ys
    outer_join-walk xs ys s t = outer-walk xs ys s t ∙ ap (map (at xs ys))
        (walk-union o (keys xs) (keys ys) (keys_ascend cmp xs s) (keys_ascend cmp ys t))

    -- ---- the joins ascend

    pub left_join-ascends : (xs : List (K × V)) (ys : List (K × W)) → Ascends xs → Ascends (left_join cmp xs ys)
    left_join-ascends xs ys s = rekeyed-ascends (λ p. (p.1, found cmp ys p.0)) xs s

    pub right_join-ascends : (xs : List (K × V)) (ys : List (K × W)) → Ascends ys → Ascends (right_join cmp xs ys)
    right_join-ascends xs ys s = rekeyed-ascends (λ q. (found cmp xs q.0, q.1)) ys s

    pub outer_join-ascends : (xs : List (K × V)) (ys : List (K × W)) → Ascends xs → Ascends ys → Ascends (outer_join cmp xs ys)
    outer_join-ascends xs ys s t =
        pairs_ascend cmp _ (subst (IsStrictlySortedBy cmp) (sym (same-keys (λ k. (found cmp xs k, found cmp ys k)) _))
        (ascends-union o (keys xs) (keys ys) (keys_ascend cmp xs s) (keys_ascend cmp ys t)))

    all-having : (k : K) (ps : List (K × (V × Option W))) → Above k ps → Above k (having_both ps)
    all-having k [] a = tt
    all-having k (p ∷ ps) a = go p.1.1 (all-having k ps a.1)
      where
        go : (r : Option W) → Above k (having_both ps) → Above k (if_both p.0 p.1.0 r (having_both ps))
        go None h = h
        go (Some w) h = (a.0, h)

    having-ascends : (ps : List (K × (V × Option W))) → Ascends ps → Ascends (having_both ps)
    unfolding IsStrictlySortedBy
    having-ascends [] s = tt
    having-ascends (p ∷ ps) s = go p.1.1 (having-ascends ps s.1)
      where
        go : (r : Option W) → Ascends (having_both ps) → Ascends (if_both p.0 p.1.0 r (having_both ps))
        go None h = h
        go (Some w) h = (all-having p.0 ps s.0, h)

    pub join-ascends : (xs : List (K × V)) (ys : List (K × W)) → Ascends xs → Ascends (join cmp xs ys)
    join-ascends xs ys s = having-ascends (left_join cmp xs ys) (left_join-ascends xs ys s)
