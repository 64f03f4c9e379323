-- A stable sort doesn't change what `sets` gives, and nor does a `dedup` that keeps the last of equal items.
use Rattle.std.proofs.Common.{◌≡◌, ℕ, suc, ◌<◌, ◌≤◌, Bool, true, false, cond, not, ◌&&◌, List, [], ◌∷◌, length, get_or, slice_get, take, ◌++◌, if◌then◌else◌, Option, Some, None, refl, sym, ap, ◌∙◌, subst, arith}
use Rattle.std.specs.Bool.{MatchBool}
use Rattle.std.specs.declared.cmp.Ordering.{Ordering}
use Rattle.std.specs.declared.cmp.Ordering.TheVariants.{Less, Equal, Greater}
use Rattle.std.specs.Ordering.{match_ordering, is_eq, is_lt, is_gt, ordering_reverse}
use Rattle.std.specs.Cmp.{IsTotalOrder}
use Rattle.std.specs.List.{AllByRecursion, filter}
use Rattle.std.specs.List.Sorted.{IsSorted, IsStableBy, IsStrictlySortedBy, ties}
use Rattle.std.specs.List.Retain.{DedupsFrom, DedupsAll}
use Rattle.std.proofs.lemmas.Cmp.{alike_right, tied_back, tied_itself}
use Rattle.std.proofs.lemmas.List.Sorted.{sorted_far, ranks_by}
use Rattle.ordered_lists.specs.Lists.{find, set, sets}
use Rattle.ordered_lists.proofs.PlaceLemmas.{all_map, greater_less, below_all, level_all}
use Rattle.ordered_lists.specs.Search.{IsCutAt}
use Rattle.ordered_lists.proofs.CutLemmas.{cut_all}
use Rattle.ordered_lists.proofs.MergeLemmas.{sets_ascend, sets_front}
use Rattle.ordered_lists.proofs.PairLemmas.{same_some}
use Rattle.ordered_lists.proofs.SearchLemmas.{by_lt, sorted_by}

ties_reverse : (r : Ordering) → (not (is_lt r) && not (is_lt (ordering_reverse r))) ≡ is_eq (ordering_reverse r)
ties_reverse Less = refl
ties_reverse Equal = refl
ties_reverse Greater = refl

by_eq : (r : Ordering) → is_eq r ≡ true → r ≡ Equal
by_eq Less e = cc
by_eq Equal e = refl
by_eq Greater e = cc

-- cases of a comparison, with what it answered
cases : (P : Ordering → Type 0) (r : Ordering) → (r ≡ Less → P Less) → (r ≡ Equal → P Equal) → (r ≡ Greater → P Greater) → P r
cases P Less f g h = f refl
cases P Equal f g h = g refl
cases P Greater f g h = h refl

-- the last of the list, or d
last_of : {A : Type 0} → Option A → List A → Option A
last_of d [] = d
last_of d (x ∷ xs) = last_of (Some x) xs

module _ {A : Type 0} (cmp : A → A → Ordering) (o : IsTotalOrder cmp) where
  find_set_same : (xs : List A) (x k : A) → cmp x k ≡ Equal → find cmp (set cmp xs x) k ≡ Some x
  find_set_same [] x k e = rw e
  find_set_same (y ∷ xs) x k e = cases (λ r. find cmp (match_ordering r (y ∷ set cmp xs x) (x ∷ xs) (x ∷ y ∷ xs)) k ≡ Some x) (cmp y x)
      (λ f. let less : cmp y k ≡ Less = sym (alike_right o x k y e) ∙ f in rw less (find_set_same xs x k e))
      (λ f. rw e)
      (λ f. rw e)

  find_set_other : (xs : List A) (x k : A) → is_eq (cmp x k) ≡ false → find cmp (set cmp xs x) k ≡ find cmp xs k
  find_set_other [] x k h = rw h
  find_set_other (y ∷ xs) x k h = cases (λ r. find cmp (match_ordering r (y ∷ set cmp xs x) (x ∷ xs) (x ∷ y ∷ xs)) k ≡ find cmp (y ∷ xs) k) (cmp y x)
      (λ f. ap (λ t. if is_eq (cmp y k) then Some y else t) (find_set_other xs x k h))
      (λ f. let same : is_eq (cmp y k) ≡ false = ap is_eq (o.congr y x k f) ∙ h in rw (h, same))
      (λ f. rw h)

  -- what is found after `sets` is the last that was placed
  find_sets : (xs ys : List A) (k : A) → find cmp (sets cmp xs ys) k ≡ last_of (find cmp xs k) (filter (λ y. is_eq (cmp y k)) ys)
  unfolding last_of
  find_sets xs [] k = refl
  find_sets xs (y ∷ ys) k =
      elim (is_eq (cmp y k)) as (λ b. is_eq (cmp y k) ≡ b → find cmp (sets cmp (set cmp xs y) ys) k ≡ last_of (find cmp xs k) (cond b (y ∷ filter (λ z. is_eq (cmp z k)) ys) (filter (λ z. is_eq (cmp z k)) ys))) [
        | true ↦ λ e. find_sets (set cmp xs y) ys k ∙ ap (λ t. last_of t (filter (λ z. is_eq (cmp z k)) ys)) (find_set_same xs y k (by_eq _ e))
        | false ↦ λ e. find_sets (set cmp xs y) ys k ∙ ap (λ t. last_of t (filter (λ z. is_eq (cmp z k)) ys)) (find_set_other xs y k e)
      ] refl

  less_greater : (x y : A) → cmp x y ≡ Less → cmp y x ≡ Greater
  less_greater x y e = o.antisymm y x ∙ ap ordering_reverse e

  -- nothing is found below the first
  find_below : (xs : List A) (k : A) → AllByRecursion (λ x. cmp k x ≡ Less) xs → find cmp xs k ≡ None
  find_below [] k all = refl
  find_below (x ∷ xs) k all = rw (less_greater k x all.0) (find_below xs k all.1)

  find_self : (x : A) (xs : List A) → find cmp (x ∷ xs) x ≡ Some x
  find_self x xs = rw (tied_itself o x)

  tail_same : (x : A) (xs ys : List A) → IsStrictlySortedBy cmp (x ∷ xs) → IsStrictlySortedBy cmp (x ∷ ys)
      → ((k : A) → find cmp (x ∷ xs) k ≡ find cmp (x ∷ ys) k) → (k : A) → find cmp xs k ≡ find cmp ys k
  unfolding IsStrictlySortedBy
  tail_same x xs ys a b h k =
      cases (λ t. (if is_eq t then Some x else find cmp xs k) ≡ (if is_eq t then Some x else find cmp ys k) → find cmp xs k ≡ find cmp ys k) (cmp x k)
      (λ e f. f)
      (λ e f. let back = tied_back o x k e in find_below xs k (level_all o k x xs back a.0) ∙ sym (find_below ys k (level_all o k x ys back b.0)))
      (λ e f. f)
      (h k)

  first_same : (x y : A) (xs ys : List A) → IsStrictlySortedBy cmp (x ∷ xs) → IsStrictlySortedBy cmp (y ∷ ys)
      → find cmp (x ∷ xs) x ≡ find cmp (y ∷ ys) x → find cmp (x ∷ xs) y ≡ find cmp (y ∷ ys) y → x ≡ y
  unfolding IsStrictlySortedBy
  first_same x y xs ys a b h k =
      cases (λ t. x ≡ y) (cmp x y)
      (λ e. let none : find cmp (y ∷ ys) x ≡ None = find_below (y ∷ ys) x (e, below_all o x y ys e b.0) in let some = find_self x xs in cc)
      (λ e. let back : cmp y x ≡ Equal = tied_back o x y e in let there : find cmp (y ∷ ys) x ≡ Some y = rw back in same_some x y (sym (find_self x xs) ∙ h ∙ there))
      (λ e. let less = greater_less o x y e in
      let none : find cmp (x ∷ xs) y ≡ None = find_below (x ∷ xs) y (less, below_all o y x xs less a.0) in let some = find_self y ys in cc)

  -- lists in order in which the same is found are the same
  pub same_by_find : (xs ys : List A) → IsStrictlySortedBy cmp xs → IsStrictlySortedBy cmp ys → ((k : A) → find cmp xs k ≡ find cmp ys k) → xs ≡ ys
  unfolding IsStrictlySortedBy
  same_by_find [] [] a b h = refl
  same_by_find [] (y ∷ ys) a b h = let some = find_self y ys in let e = h y in cc
  same_by_find (x ∷ xs) [] a b h = let some = find_self x xs in let e = h x in cc
  same_by_find (x ∷ xs) (y ∷ ys) a b h =
      let first = first_same x y xs ys a b (h x) (h y) in
      let b' : IsStrictlySortedBy cmp (x ∷ ys) = subst (λ t. IsStrictlySortedBy cmp (t ∷ ys)) (sym first) b in
      let h' : (k : A) → find cmp (x ∷ xs) k ≡ find cmp (x ∷ ys) k = subst (λ t. (k : A) → find cmp (x ∷ xs) k ≡ find cmp (t ∷ ys) k) (sym first) h in
      (λ i. first i ∷ same_by_find xs ys a.1 b.1 (tail_same x xs ys a b' h') i)

  tie_is : (k x : A) → ties (λ y z. is_lt (cmp y z)) k x ≡ is_eq (cmp x k)
  tie_is k x = rw (o.antisymm x k) (ties_reverse (cmp k x))

  -- a stable sort changes nothing in what is placed
  pub sorted_sets : (xs new sorted : List A) → IsStrictlySortedBy cmp xs → IsStableBy (λ x y. is_lt (cmp x y)) new sorted → sets cmp xs sorted ≡ sets cmp xs new
  sorted_sets xs new sorted a stable =
      same_by_find _ _ (sets_ascend cmp o xs sorted a) (sets_ascend cmp o xs new a) (λ k.
      let same : filter (λ x. is_eq (cmp x k)) sorted ≡ filter (λ x. is_eq (cmp x k)) new = subst (λ (t : A → Bool). filter t sorted ≡ filter t new) (λ i x. tie_is k x i) (stable k) in
      find_sets xs sorted k ∙ ap (last_of (find cmp xs k)) same ∙ sym (find_sets xs new k))

  -- no item is greater than one after it
  Rises : List A → Type 0
  Rises [] = Unit {0}
  Rises (x ∷ xs) = AllByRecursion (λ y. is_gt (cmp x y) ≡ false) xs × Rises xs

  all_from_places : (P : A → Type 0) (xs : List A) → ((j : ℕ) (d : A) → j < length xs → P (get_or xs j d)) → AllByRecursion P xs
  all_from_places P [] h = tt
  all_from_places P (x ∷ xs) h = (h 0 x (omega arith), all_from_places P xs (λ j d lt. h (suc j) d (omega arith)))

  not_greater : (r : Ordering) → is_lt (ordering_reverse r) ≡ false → is_gt r ≡ false
  not_greater Less e = refl
  not_greater Equal e = refl
  not_greater Greater e = cc

  rises_by_far : (xs : List A) → ((i j : ℕ) (d : A) → i ≤ j → j < length xs → is_lt (cmp (get_or xs j d) (get_or xs i d)) ≡ false) → Rises xs
  unfolding Rises
  rises_by_far [] h = tt
  rises_by_far (x ∷ xs) h = (
    all_from_places (λ y. is_gt (cmp x y) ≡ false) xs (λ j d lt. not_greater _ (ap is_lt (sym (o.antisymm _ _)) ∙ h 0 (suc j) d (omega arith) (omega arith))),
    rises_by_far xs (λ i j d le lt. h (suc i) (suc j) d (omega arith) (omega arith)),
  )

  rises_sorted : (xs : List A) → IsSorted cmp xs → Rises xs
  rises_sorted xs up = rises_by_far xs (λ i j d le lt. sorted_far (λ x y. is_lt (cmp x y)) (ranks_by o (λ x. x)) xs up i j d le lt)

  -- placing two equal items is placing the second
  set_twice : (xs : List A) (k x : A) → cmp x k ≡ Equal → set cmp (set cmp xs k) x ≡ set cmp xs x
  set_twice [] k x e = rw (tied_back o _ _ e)
  set_twice (y ∷ xs) k x e =
      let same : cmp y x ≡ cmp y k = alike_right o x k y e in
      rw same (cases (λ r. set cmp (match_ordering r (y ∷ set cmp xs k) (k ∷ xs) (k ∷ y ∷ xs)) x ≡ match_ordering r (y ∷ set cmp xs x) (x ∷ xs) (x ∷ y ∷ xs)) (cmp y k)
      (λ f. rw (same, f) (ap (λ t. y ∷ t) (set_twice xs k x e)))
      (λ f. rw (tied_back o _ _ e))
      (λ f. rw (tied_back o _ _ e)))

  less_upto : (x y z : A) → cmp x y ≡ Less → is_gt (cmp y z) ≡ false → cmp x z ≡ Less
  less_upto x y z e g =
      cases (λ r. is_gt r ≡ false → cmp x z ≡ Less) (cmp y z)
      (λ f _. o.trans x y z e f)
      (λ f _. sym (alike_right o y z x f) ∙ e)
      (λ f h. cc)
      g

  -- what `dedup_by` leaves, where its closure keeps the later of two equal items
  module _ {S : Type 0} (R : S → A → A → Bool → S → A → A → Type 0)
      (says : (s : S) (x k : A) (b : Bool) (t : S) (x' k' : A) → R s x k b t x' k' → (b ≡ is_eq (cmp x k)) × MatchBool b (k' ≡ x) ((x' ≡ x) × (k' ≡ k))) where
    kept_sets : (l : List A) (s : S) (k : A) (xs ys : List A) → DedupsFrom R s k xs ys → sets cmp l ys ≡ sets cmp l (k ∷ xs)
    kept_sets l s k [] ys d = ap (sets cmp l) d
    kept_sets l s k (x ∷ xs) ys (true, t, x', k', r, d) =
        let told = says s x k true t x' k' r in
        let equal : cmp x k ≡ Equal = by_eq _ (sym told.0) in
        kept_sets l t k' xs ys d ∙ ap (λ z. sets cmp l (z ∷ xs)) told.1 ∙ ap (λ z. sets cmp z xs) (sym (set_twice l k x equal))
    kept_sets l s k (x ∷ xs) ys (false, t, x', k', r, d) =
        let told = says s x k false t x' k' r in
        ap (sets cmp l) d.2 ∙ ap (λ z. sets cmp l (z ∷ d.0)) told.1.1 ∙ kept_sets (set cmp l k) t x' xs d.0 d.1 ∙ ap (λ z. sets cmp (set cmp l k) (z ∷ xs)) told.1.0

    kept_all : (P : A → Type 0) (s : S) (k : A) (xs ys : List A) → DedupsFrom R s k xs ys → P k → AllByRecursion P xs → AllByRecursion P ys
    kept_all P s k [] ys d p all = subst (AllByRecursion P) (sym d) (p, tt)
    kept_all P s k (x ∷ xs) ys (true, t, x', k', r, d) p all =
        kept_all P t k' xs ys d (subst P (sym (says s x k true t x' k' r).1) all.0) all.1
    kept_all P s k (x ∷ xs) ys (false, t, x', k', r, d) p all =
        let told = says s x k false t x' k' r in
        subst (AllByRecursion P) (sym d.2) (subst P (sym told.1.1) p, kept_all P t x' xs d.0 d.1 (subst P (sym told.1.0) all.0) all.1)

    strictly : (r : Ordering) → is_gt r ≡ false → is_eq (ordering_reverse r) ≡ false → r ≡ Less
    strictly Less g e = refl
    strictly Equal g e = cc
    strictly Greater g e = cc

    kept_ascends : (s : S) (k : A) (xs ys : List A) → DedupsFrom R s k xs ys → Rises (k ∷ xs) → IsStrictlySortedBy cmp ys
    unfolding IsStrictlySortedBy Rises
    kept_ascends s k [] ys d up = subst (IsStrictlySortedBy cmp) (sym d) (tt, tt)
    kept_ascends s k (x ∷ xs) ys (true, t, x', k', r, d) up =
        kept_ascends t k' xs ys d (subst (λ z. Rises (z ∷ xs)) (sym (says s x k true t x' k' r).1) up.1)
    kept_ascends s k (x ∷ xs) ys (false, t, x', k', r, d) up =
        let told = says s x k false t x' k' r in
        let apart : is_eq (ordering_reverse (cmp k x)) ≡ false = ap is_eq (sym (o.antisymm x k)) ∙ sym told.0 in
        let below : cmp k x ≡ Less = strictly (cmp k x) up.0.0 apart in
        let above = λ (z : A) (g : is_gt (cmp x z) ≡ false). less_upto k x z below g in
        let all = kept_all (λ z. cmp k z ≡ Less) t x' xs d.0 d.1 (subst (λ z. cmp k z ≡ Less) (sym told.1.0) below) (all_map (λ z. is_gt (cmp x z) ≡ false) (λ z. cmp k z ≡ Less) above xs up.1.0) in
        subst (IsStrictlySortedBy cmp) (sym (d.2 ∙ ap (λ z. z ∷ d.0) told.1.1)) (all, kept_ascends t x' xs d.0 d.1 (subst (λ z. Rises (z ∷ xs)) (sym told.1.0) up.1))

    pub deduped : (s : S) (xs ys : List A) → DedupsAll R s xs ys → IsSorted cmp xs
        → record { ascends : IsStrictlySortedBy cmp ys; same : (l : List A) → sets cmp l ys ≡ sets cmp l xs }
    unfolding IsStrictlySortedBy
    deduped s [] ys d up = record { ascends = subst (IsStrictlySortedBy cmp) (sym d) tt; same = λ l. ap (sets cmp l) d }
    deduped s (x ∷ xs) ys d up = record { ascends = kept_ascends s x xs ys d (rises_sorted (x ∷ xs) up); same = λ l. kept_sets l s x xs ys d }

  -- where xs is cut at the first new item, those before the cut stay in front
  pub sets_behind : (xs new l : List A) (i : ℕ) → IsSorted cmp new → ((y : A) → slice_get new 0 ≡ Some y → IsCutAt (λ x. is_lt (cmp x y)) xs i)
      → sets cmp (take i xs ++ l) new ≡ take i xs ++ sets cmp l new
  unfolding Rises
  sets_behind xs [] l i up cut = refl
  sets_behind xs (y ∷ ys) l i up cut =
      let upto = (rises_sorted (y ∷ ys) up).0 in
      sets_front cmp (take i xs) l (y ∷ ys)
      (all_map (λ x. is_lt (cmp x y) ≡ true) (λ x. AllByRecursion (λ z. cmp x z ≡ Less) (y ∷ ys))
      (λ x less. let below = by_lt (cmp x y) less in (below, all_map (λ z. is_gt (cmp y z) ≡ false) (λ z. cmp x z ≡ Less) (λ z g. less_upto x y z below g) ys upto))
      (take i xs) (cut_all (λ x. is_lt (cmp x y)) xs i (cut y refl)))

  pub sorted_ascending : (xs : List A) → IsStrictlySortedBy cmp xs → IsSorted cmp xs
  sorted_ascending xs a = sorted_by (λ x. x) cmp o xs a
