-- A list that ascends, where each item gives way to an equal one.
use Rattle.std.proofs.Common.{◌≡◌, Bool, true, List, [], ◌∷◌, ◌++◌, refl, ◌∙◌}
use Rattle.std.specs.declared.cmp.Ordering.{Ordering}
use Rattle.std.specs.declared.cmp.Ordering.TheVariants.{Less, Equal, Greater}
use Rattle.std.specs.Cmp.{IsTotalOrder}
use Rattle.std.specs.Cmp.Lexicographic.{pointwise}
use Rattle.std.specs.List.{AllByRecursion, AllZip}
use Rattle.std.specs.List.Sorted.{IsStrictlySortedBy}
use Rattle.std.specs.Ordering.{is_eq}
use Rattle.std.proofs.lemmas.Cmp.{alike_right}

pub equal_is : (r : Ordering) → is_eq r ≡ true → r ≡ Equal
equal_is Less e = cc
equal_is Equal e = refl
equal_is Greater e = cc

module _ {A : Type 0} (cmp : A → A → Ordering) (order : IsTotalOrder cmp) (R : A → A → Type 0) (equal : (x y : A) → R x y → cmp y x ≡ Equal) where
  stays_below : (x y : A) → R x y → (xs ys : List A) → AllZip R xs ys → AllByRecursion (λ z. cmp x z ≡ Less) xs → AllByRecursion (λ z. cmp y z ≡ Less) ys
  stays_below x y cloned [] [] each all = tt
  stays_below x y cloned [] (z ∷ ys) each all = absurd each
  stays_below x y cloned (z ∷ xs) [] each all = absurd each
  stays_below x y cloned (z ∷ xs) (w ∷ ys) each all =
      (order.congr y x w (equal x y cloned) ∙ alike_right order w z x (equal z w each.0) ∙ all.0, stays_below x y cloned xs ys each.1 all.1)

  pub equals_ascend : (xs ys : List A) → AllZip R xs ys → IsStrictlySortedBy cmp xs → IsStrictlySortedBy cmp ys
  unfolding IsStrictlySortedBy
  equals_ascend [] [] each a = tt
  equals_ascend [] (y ∷ ys) each a = absurd each
  equals_ascend (x ∷ xs) [] each a = absurd each
  equals_ascend (x ∷ xs) (y ∷ ys) each a = (stays_below x y each.0 xs ys each.1 a.0, equals_ascend xs ys each.1 a.1)

pub zip_more : {A B : Type 0} (R : A → B → Type 0) (xs : List A) (ys : List B) (x : A) (y : B) → AllZip R xs ys → R x y → AllZip R (xs ++ x ∷ []) (ys ++ y ∷ [])
zip_more R [] [] x y each r = (r, tt)
zip_more R [] (z ∷ ys) x y each r = absurd each
zip_more R (z ∷ xs) [] x y each r = absurd each
zip_more R (z ∷ xs) (w ∷ ys) x y each r = (each.0, zip_more R xs ys x y each.1 r)

-- where each clone is equal to what was cloned, the lists are equal item by item
module _ {A : Type 0} (R : A → A → Type 0) (eq : A → A → Bool) (equal : (x y : A) → R x y → eq y x ≡ true) where
  pub equals_pointwise : (xs ys : List A) → AllZip R xs ys → pointwise eq ys xs ≡ true
  equals_pointwise [] [] each = refl
  equals_pointwise [] (y ∷ ys) each = absurd each
  equals_pointwise (x ∷ xs) [] each = absurd each
  equals_pointwise (x ∷ xs) (y ∷ ys) each = rw (equal x y each.0) (equals_pointwise xs ys each.1)
