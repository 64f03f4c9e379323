-- What a search finds among items in order, and what an edit at that place does.
use Rattle.std.proofs.Common.{◌≡◌, ℕ, zero, suc, ◌+◌, ◌-◌, ◌<◌, ◌≤◌, true, false, List, [], ◌∷◌, length, get_or, slice_get, slice_set, Some, None, Result, Ok, Err, IfOk, IfErr, inl, inr, refl, sym, ap, ◌∙◌, subst, arith}
use Rattle.std.specs.declared.cmp.Ordering.{Ordering}
use Rattle.std.specs.declared.cmp.Ordering.TheVariants.{Less, Equal, Greater}
use Rattle.std.specs.Ordering.{is_lt, is_le, ordering_reverse}
use Rattle.std.specs.Cmp.{IsTotalOrder}
use Rattle.std.specs.List.{AllByRecursion, AllWithin, HoldsAt, insert, remove}
use Rattle.std.specs.List.Sorted.{IsSearchInRange, IsBinarySearchResult, IsSortedBy, IsStrictlySortedBy}
use Rattle.std.proofs.lemmas.Bool.{cases_lt}
use Rattle.std.proofs.lemmas.Cmp.{alike_right}
use Rattle.std.proofs.lemmas.List.Sorted.{searchable_from_sorted}
use Rattle.ordered_lists.specs.Lists.{find, take_out, set}
use Rattle.ordered_lists.specs.Search.{IsFound, IsMissing}

all_at : {A : Type 0} (P : A → Type 0) (xs : List A) → AllByRecursion P xs → (j : ℕ) (d : A) → j < length xs → P (get_or xs j d)
all_at P [] all j d lt = absurd (omega arith)
all_at P (x ∷ xs) all zero d lt = all.0
all_at P (x ∷ xs) all (suc j) d lt = all_at P xs all.1 j d (omega arith)

-- an earlier item is less than a later one
pub ascends : {A : Type 0} (cmp : A → A → Ordering) (xs : List A) → IsStrictlySortedBy cmp xs → (i j : ℕ) (d : A) → i < j → j < length xs
    → cmp (get_or xs i d) (get_or xs j d) ≡ Less
unfolding IsStrictlySortedBy
ascends cmp [] a i j d lt in_range = absurd (omega arith)
ascends cmp (x ∷ xs) a i zero d lt in_range = absurd (omega arith)
ascends cmp (x ∷ xs) a zero (suc j) d lt in_range = all_at (λ y. cmp x y ≡ Less) xs a.0 j d (omega arith)
ascends cmp (x ∷ xs) a (suc i) (suc j) d lt in_range = ascends cmp xs a.1 i j d (omega arith) (omega arith)

pub by_place : {A : Type 0} (xs : List A) (i : ℕ) (x d : A) → slice_get xs i ≡ Some x → get_or xs i d ≡ x
by_place [] i x d is = cc
by_place (y ∷ xs) zero x d is = cc
by_place (y ∷ xs) (suc i) x d is = by_place xs i x d is

module _ {A K : Type 0} (key : A → K) (cmp : K → K → Ordering) where
  -- the item at place i is equal to k, and those before it are less
  record IsAt (xs : List A) (k : K) (i : ℕ) : Type 0 where
    in_range : i < length xs
    equal : HoldsAt (λ x. cmp (key x) k ≡ Equal) xs i
    less : AllWithin (λ x. cmp (key x) k ≡ Less) xs 0 i

  -- the items before place i are less than k, and those from there on are greater
  record IsGap (xs : List A) (k : K) (i : ℕ) : Type 0 where
    in_range : i ≤ length xs
    less : AllWithin (λ x. cmp (key x) k ≡ Less) xs 0 i
    greater : AllWithin (λ x. cmp (key x) k ≡ Greater) xs i (length xs)

  at_tail : (x : A) (xs : List A) (k : K) (i : ℕ) → IsAt (x ∷ xs) k (suc i) → IsAt xs k i
  at_tail x xs k i at = record { in_range = omega (arith, at.in_range); equal = at.equal; less = λ j d low lt. at.less (suc j) d (omega arith) (omega arith) }

  gap_tail : (x : A) (xs : List A) (k : K) (i : ℕ) → IsGap (x ∷ xs) k (suc i) → IsGap xs k i
  gap_tail x xs k i gap = record { in_range = omega (arith, gap.in_range); less = λ j d low lt. gap.less (suc j) d (omega arith) (omega arith); greater = λ j d low lt. gap.greater (suc j) d (omega arith) (omega arith) }

  gap_later : (x : A) (xs : List A) (k : K) → IsGap (x ∷ xs) k zero → IsGap xs k zero
  gap_later x xs k gap = record { in_range = omega arith; less = λ j d low lt. absurd (omega arith); greater = λ j d low lt. gap.greater (suc j) d (omega arith) (omega arith) }

  find_at : (xs : List A) (k : K) (i : ℕ) → IsAt xs k i → find (λ x q. cmp (key x) q) xs k ≡ slice_get xs i
  find_at [] k i at = absurd (omega (arith, at.in_range))
  find_at (x ∷ xs) k zero at = rw (at.equal x)
  find_at (x ∷ xs) k (suc i) at = rw (at.less 0 x (omega arith) (omega arith)) (find_at xs k i (at_tail x xs k i at))

  find_gap : (xs : List A) (k : K) (i : ℕ) → IsGap xs k i → find (λ x q. cmp (key x) q) xs k ≡ None
  find_gap [] k i gap = refl
  find_gap (x ∷ xs) k zero gap = rw (gap.greater 0 x (omega arith) (omega arith)) (find_gap xs k zero (gap_later x xs k gap))
  find_gap (x ∷ xs) k (suc i) gap = rw (gap.less 0 x (omega arith) (omega arith)) (find_gap xs k i (gap_tail x xs k i gap))

  take_at : (xs : List A) (k : K) (i : ℕ) → IsAt xs k i → take_out (λ x q. cmp (key x) q) xs k ≡ remove xs i
  take_at [] k i at = absurd (omega (arith, at.in_range))
  take_at (x ∷ xs) k zero at = rw (at.equal x)
  take_at (x ∷ xs) k (suc i) at = rw (at.less 0 x (omega arith) (omega arith)) (ap (λ t. x ∷ t) (take_at xs k i (at_tail x xs k i at)))

  take_gap : (xs : List A) (k : K) (i : ℕ) → IsGap xs k i → take_out (λ x q. cmp (key x) q) xs k ≡ xs
  take_gap [] k i gap = refl
  take_gap (x ∷ xs) k zero gap = rw (gap.greater 0 x (omega arith) (omega arith)) (ap (λ t. x ∷ t) (take_gap xs k zero (gap_later x xs k gap)))
  take_gap (x ∷ xs) k (suc i) gap = rw (gap.less 0 x (omega arith) (omega arith)) (ap (λ t. x ∷ t) (take_gap xs k i (gap_tail x xs k i gap)))

  place_at : (xs : List A) (x : A) (i : ℕ) → IsAt xs (key x) i → set (λ y z. cmp (key y) (key z)) xs x ≡ slice_set xs i x
  place_at [] x i at = absurd (omega (arith, at.in_range))
  place_at (y ∷ xs) x zero at = rw (at.equal y)
  place_at (y ∷ xs) x (suc i) at = rw (at.less 0 y (omega arith) (omega arith)) (ap (λ t. y ∷ t) (place_at xs x i (at_tail y xs (key x) i at)))

  place_gap : (xs : List A) (x : A) (i : ℕ) → IsGap xs (key x) i → set (λ y z. cmp (key y) (key z)) xs x ≡ insert xs i x
  place_gap [] x zero gap = refl
  place_gap [] x (suc i) gap = absurd (omega (arith, gap.in_range))
  place_gap (y ∷ xs) x zero gap = rw (gap.greater 0 y (omega arith) (omega arith))
  place_gap (y ∷ xs) x (suc i) gap = rw (gap.less 0 y (omega arith) (omega arith)) (ap (λ t. y ∷ t) (place_gap xs x i (gap_tail y xs (key x) i gap)))

  missing : (xs : List A) (k : K) (i : ℕ) → IsGap xs k i → IsMissing key cmp xs k i
  missing xs k i gap = record {
    in_range = gap.in_range;
    finds = find_gap xs k i gap;
    takes = take_gap xs k i gap;
    places = λ x is. place_gap xs x i (rw is gap);
    below = record { in_range = gap.in_range; front = λ j d low lt. ap is_lt (gap.less j d low lt); back = λ j d low lt. ap is_lt (gap.greater j d low lt) };
    upto = record { in_range = gap.in_range; front = λ j d low lt. ap is_le (gap.less j d low lt); back = λ j d low lt. ap is_le (gap.greater j d low lt) };
  }

  module _ (o : IsTotalOrder cmp) where
    pub sorted_by : (xs : List A) → IsStrictlySortedBy (λ x y. cmp (key x) (key y)) xs → IsSortedBy (λ x y. is_lt (cmp (key x) (key y))) xs
    sorted_by xs a k d low lt =
        let up = ascends (λ x y. cmp (key x) (key y)) xs a k (k + 1) d (omega arith) lt in
        ap is_lt (o.antisymm _ _ ∙ ap ordering_reverse up)

    after_at : (xs : List A) → IsStrictlySortedBy (λ x y. cmp (key x) (key y)) xs → (k : K) (i : ℕ) → IsAt xs k i → AllWithin (λ x. cmp (key x) k ≡ Greater) xs (i + 1) (length xs)
    after_at xs a k i at j d low lt =
        let far : cmp k (key (get_or xs j d)) ≡ Less = sym (o.congr (key (get_or xs i d)) k (key (get_or xs j d)) (at.equal d)) ∙ ascends (λ x y. cmp (key x) (key y)) xs a i j d (omega arith) lt in
        o.antisymm _ _ ∙ ap ordering_reverse far

    found : (xs : List A) → IsStrictlySortedBy (λ x y. cmp (key x) (key y)) xs → (k : K) (i : ℕ) → IsAt xs k i → IsFound key cmp xs k i
    found xs a k i at =
        let here : (j : ℕ) (d : A) → j ≡ i → cmp (key (get_or xs j d)) k ≡ Equal = λ j d e. ap (λ n. cmp (key (get_or xs n d)) k) e ∙ at.equal d in
        let back : AllWithin (λ x. is_lt (cmp (key x) k) ≡ false) xs i (length xs) = λ j d low lt.
        elim (cases_lt i j) [ inl above ↦ ap is_lt (after_at xs a k i at j d (omega arith) lt) | inr same ↦ ap is_lt (here j d (omega arith)) ] in
        let front : AllWithin (λ x. is_le (cmp (key x) k) ≡ true) xs 0 (i + 1) = λ j d low lt.
        elim (cases_lt j i) [ inl before ↦ ap is_le (at.less j d low before) | inr same ↦ ap is_le (here j d (omega arith)) ] in
        record {
          in_range = at.in_range;
          finds = find_at xs k i at;
          takes = take_at xs k i at;
          places = λ x is. place_at xs x i (rw is at);
          below = record { in_range = omega (arith, at.in_range); front = λ j d low lt. ap is_lt (at.less j d low lt); back = back };
          upto = record { in_range = omega (arith, at.in_range); front = front; back = λ j d low lt. ap is_le (after_at xs a k i at j d low lt) };
        }

    -- what std's binary search answers is the place of the key
    pub searched : (xs : List A) → IsStrictlySortedBy (λ x y. cmp (key x) (key y)) xs → (k : K) (r : Result ℕ ℕ)
        → IsSearchInRange r (length xs) → IsBinarySearchResult (λ x. cmp (key x) k) xs r
        → record { found : IfOk r (IsFound key cmp xs k); missing : IfErr r (IsMissing key cmp xs k) }
    searched xs a k (Ok i) in_range equal = record {
      found = found xs a k i (record {
        in_range = in_range;
        equal = equal;
        less = λ j d low lt. sym (alike_right o (key (get_or xs i d)) k (key (get_or xs j d)) (equal d)) ∙ ascends (λ x y. cmp (key x) (key y)) xs a j i d lt in_range;
      });
      missing = tt;
    }
    searched xs a k (Err i) in_range parted =
        let both = parted (searchable_from_sorted o key xs k (sorted_by xs a)) in
        record { found = tt; missing = missing xs k i (record { in_range = in_range; less = both.0; greater = both.1 }) }

    -- a key above the last item has its place at the end
    pub after_last : (xs : List A) → IsStrictlySortedBy (λ x y. cmp (key x) (key y)) xs → (k : K) (x : A)
        → slice_get xs (length xs - 1) ≡ Some x → cmp (key x) k ≡ Less → IsMissing key cmp xs k (length xs)
    after_last xs a k x is less =
        let last : (d : A) → get_or xs (length xs - 1) d ≡ x = λ d. by_place xs (length xs - 1) x d is in
        let all : AllWithin (λ y. cmp (key y) k ≡ Less) xs 0 (length xs) = λ j d low lt.
        elim (cases_lt j (length xs - 1)) [
          | inl before ↦ o.trans (key (get_or xs j d)) (key x) k (ap (λ y. cmp (key (get_or xs j d)) (key y)) (sym (last d)) ∙ ascends (λ y z. cmp (key y) (key z)) xs a j (length xs - 1) d before (omega arith)) less
          | inr end ↦ let same : j ≡ length xs - 1 = omega arith in ap (λ n. cmp (key (get_or xs n d)) k) same ∙ ap (λ y. cmp (key y) k) (last d) ∙ less
        ] in
        missing xs k (length xs) (record { in_range = omega arith; less = all; greater = λ j d low lt. absurd (omega arith) })

pub by_lt : (r : Ordering) → is_lt r ≡ true → r ≡ Less
by_lt Less h = refl
by_lt Equal h = cc
by_lt Greater h = cc

pub get_is : {A : Type 0} (xs : List A) (i : ℕ) (x : A) → i < length xs → x ≡ get_or xs i x → slice_get xs i ≡ Some x
get_is [] i x lt is = absurd (omega arith)
get_is (y ∷ xs) zero x lt is = ap Some (sym is)
get_is (y ∷ xs) (suc i) x lt is = get_is xs i x (omega arith) is

-- what is read at place i of a list that is known to be xs
pub reads : {A : Type 0} (xs ys : List A) → ys ≡ xs → (i : ℕ) (x : A) → i < length xs → x ≡ get_or ys i x → slice_get xs i ≡ Some x
reads xs ys same i x lt is = get_is xs i x lt (subst (λ t. x ≡ get_or t i x) same is)
