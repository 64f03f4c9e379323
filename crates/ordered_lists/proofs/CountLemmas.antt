-- How many items a list has at least.
use Rattle.std.proofs.Common.{◌≡◌, ◌≤◌, suc, true, List, [], ◌∷◌, length, refl, ap, ◌∙◌, arith}
use Rattle.std.specs.Cmp.{IsTotalOrder}
use Rattle.std.specs.List.{AllByRecursion}
use Rattle.std.specs.List.Sorted.{IsStrictlySortedBy}
use Rattle.std.specs.declared.cmp.Ordering.{Ordering}
use Rattle.std.specs.declared.cmp.Ordering.TheVariants.{Less, Equal, Greater}
use Rattle.ordered_lists.specs.Lists.{has, take_out}

module _ {A : Type 0} {cmp : A → A → Ordering} (o : IsTotalOrder cmp) where
  one_taken_out : (m : List A) (x : A) → has cmp m x ≡ true → length m ≡ suc (length (take_out cmp m x))
  one_taken_out [] x h = absurd cc
  one_taken_out (z ∷ m) x h = go (one_taken_out m x) (cmp z x) refl
    where
      go : (has cmp m x ≡ true → length m ≡ suc (length (take_out cmp m x))) → (r : Ordering) → cmp z x ≡ r → length (z ∷ m) ≡ suc (length (take_out cmp (z ∷ m) x))
      go rest Less e = rw e (ap suc (rest (rw e at h)))
      go rest Equal e = rw e refl
      go rest Greater e = rw e (ap suc (rest (rw e at h)))

  -- what is taken out for an item isn't equal to a greater one
  greater_stays : (m : List A) (x y : A) → cmp x y ≡ Less → has cmp m y ≡ true → has cmp (take_out cmp m x) y ≡ true
  greater_stays [] x y l h = h
  greater_stays (z ∷ m) x y l h = go (greater_stays m x y l) (cmp z x) (cmp z y) refl refl
    where
      go : (has cmp m y ≡ true → has cmp (take_out cmp m x) y ≡ true) → (r s : Ordering) → cmp z x ≡ r → cmp z y ≡ s → has cmp (take_out cmp (z ∷ m) x) y ≡ true
      go rest Equal s e f = let g : cmp z y ≡ Less = o.congr z x y e ∙ l in rw e (rw g at h)
      go rest Less Equal e f = rw (e, f) refl
      go rest Less Less e f = rw (e, f) (rest (rw f at h))
      go rest Less Greater e f = rw (e, f) (rest (rw f at h))
      go rest Greater Equal e f = rw (e, f) refl
      go rest Greater Less e f = rw (e, f) (rest (rw f at h))
      go rest Greater Greater e f = rw (e, f) (rest (rw f at h))

  all_stay : (m : List A) (x : A) (ys : List A) → AllByRecursion (λ y. cmp x y ≡ Less) ys → AllByRecursion (λ y. has cmp m y ≡ true) ys → AllByRecursion (λ y. has cmp (take_out cmp m x) y ≡ true) ys
  all_stay m x [] a h = tt
  all_stay m x (y ∷ ys) a h = (greater_stays m x y a.0 h.0, all_stay m x ys a.1 h.1)

  -- a list in which each of the items xs, which ascend, has an equal one is at least as long
  pub as_long_as_distinct : (xs m : List A) → IsStrictlySortedBy cmp xs → AllByRecursion (λ x. has cmp m x ≡ true) xs → length xs ≤ length m
  unfolding IsStrictlySortedBy
  as_long_as_distinct [] m up h = omega arith
  as_long_as_distinct (x ∷ xs) m up h =
      let rest = as_long_as_distinct xs (take_out cmp m x) up.1 (all_stay m x xs up.0 h.1) in
      omega (arith, rest, one_taken_out m x h.0)
