-- The parts of a list that is cut at a place.
use Rattle.std.proofs.Common.{◌≡◌, ℕ, zero, suc, ◌-◌, Bool, not, ◌&&◌, List, [], ◌∷◌, take, drop, refl, ap, true, arith}
use Rattle.std.specs.declared.cmp.Ordering.{Ordering}
use Rattle.std.specs.declared.cmp.Ordering.TheVariants.{Less}
use Rattle.std.specs.List.{AllByRecursion, filter}
use Rattle.std.specs.List.Sorted.{IsStrictlySortedBy}
use Rattle.ordered_lists.specs.Search.{IsCutAt}

all_take : {A : Type 0} (P : A → Type 0) (i : ℕ) (xs : List A) → AllByRecursion P xs → AllByRecursion P (take i xs)
all_take P zero xs all = tt
all_take P (suc i) [] all = tt
all_take P (suc i) (x ∷ xs) all = (all.0, all_take P i xs all.1)

pub take_ascends : {A : Type 0} (cmp : A → A → Ordering) (i : ℕ) (xs : List A) → IsStrictlySortedBy cmp xs → IsStrictlySortedBy cmp (take i xs)
unfolding IsStrictlySortedBy
take_ascends cmp zero xs a = tt
take_ascends cmp (suc i) [] a = tt
take_ascends cmp (suc i) (x ∷ xs) a = (all_take (λ y. cmp x y ≡ Less) i xs a.0, take_ascends cmp i xs a.1)

pub drop_ascends : {A : Type 0} (cmp : A → A → Ordering) (i : ℕ) (xs : List A) → IsStrictlySortedBy cmp xs → IsStrictlySortedBy cmp (drop i xs)
unfolding IsStrictlySortedBy
drop_ascends cmp zero xs a = a
drop_ascends cmp (suc i) [] a = tt
drop_ascends cmp (suc i) (x ∷ xs) a = drop_ascends cmp i xs a.1

module _ {A : Type 0} (test : A → Bool) (x : A) (xs : List A) where
  cut_tail : (i : ℕ) → IsCutAt test (x ∷ xs) (suc i) → IsCutAt test xs i
  cut_tail i c = record { in_range = omega (arith, c.in_range); front = λ k d low lt. c.front (suc k) d (omega arith) (omega arith); back = λ k d low lt. c.back (suc k) d (omega arith) (omega arith) }

  cut_none : IsCutAt test (x ∷ xs) zero → IsCutAt test xs zero
  cut_none c = record { in_range = omega arith; front = λ k d low lt. absurd (omega arith); back = λ k d low lt. c.back (suc k) d (omega arith) (omega arith) }

-- before the cut the test passes
pub cut_front : {A : Type 0} (test : A → Bool) (xs : List A) (i : ℕ) → IsCutAt test xs i → take i xs ≡ filter test xs
cut_front test [] zero c = refl
cut_front test [] (suc i) c = absurd (omega (arith, c.in_range))
cut_front test (x ∷ xs) zero c = rw (c.back 0 x (omega arith) (omega arith)) (cut_front test xs zero (cut_none test x xs c))
cut_front test (x ∷ xs) (suc i) c = rw (c.front 0 x (omega arith) (omega arith)) (ap (λ t. x ∷ t) (cut_front test xs i (cut_tail test x xs i c)))

-- from the cut on it fails
pub cut_back : {A : Type 0} (test : A → Bool) (xs : List A) (i : ℕ) → IsCutAt test xs i → drop i xs ≡ filter (λ x. not (test x)) xs
cut_back test [] zero c = refl
cut_back test [] (suc i) c = absurd (omega (arith, c.in_range))
cut_back test (x ∷ xs) zero c = rw (c.back 0 x (omega arith) (omega arith)) (ap (λ t. x ∷ t) (cut_back test xs zero (cut_none test x xs c)))
cut_back test (x ∷ xs) (suc i) c = rw (c.front 0 x (omega arith) (omega arith)) (cut_back test xs i (cut_tail test x xs i c))

-- between two cuts the first test fails and the second passes
pub cut_between : {A : Type 0} (low high : A → Bool) (xs : List A) (i j : ℕ) → IsCutAt low xs i → IsCutAt high xs j
    → take (j - i) (drop i xs) ≡ filter (λ x. not (low x) && high x) xs
cut_between low high [] zero zero a b = refl
cut_between low high [] (suc i) j a b = absurd (omega (arith, a.in_range))
cut_between low high [] i (suc j) a b = absurd (omega (arith, b.in_range))
cut_between low high (x ∷ xs) zero zero a b =
    rw (a.back 0 x (omega arith) (omega arith), b.back 0 x (omega arith) (omega arith)) (cut_between low high xs zero zero (cut_none low x xs a) (cut_none high x xs b))
cut_between low high (x ∷ xs) zero (suc j) a b =
    let n : suc j - zero ≡ suc (j - zero) = omega arith in
    rw (n, a.back 0 x (omega arith) (omega arith), b.front 0 x (omega arith) (omega arith)) (ap (λ t. x ∷ t) (cut_between low high xs zero j (cut_none low x xs a) (cut_tail high x xs j b)))
cut_between low high (x ∷ xs) (suc i) zero a b =
    let n : zero - suc i ≡ zero - i = omega arith in
    rw (n, a.front 0 x (omega arith) (omega arith)) (cut_between low high xs i zero (cut_tail low x xs i a) (cut_none high x xs b))
cut_between low high (x ∷ xs) (suc i) (suc j) a b =
    let n : suc j - suc i ≡ j - i = omega arith in
    rw (n, a.front 0 x (omega arith) (omega arith)) (cut_between low high xs i j (cut_tail low x xs i a) (cut_tail high x xs j b))

-- each item before the cut passes the test
pub cut_all : {A : Type 0} (test : A → Bool) (xs : List A) (i : ℕ) → IsCutAt test xs i → AllByRecursion (λ x. test x ≡ true) (take i xs)
cut_all test xs zero c = tt
cut_all test [] (suc i) c = tt
cut_all test (x ∷ xs) (suc i) c = (c.front 0 x (omega arith) (omega arith), cut_all test xs i (cut_tail test x xs i c))
