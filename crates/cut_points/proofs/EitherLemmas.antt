-- The cuts that just one of two sets has, one after another.
use Rattle.std.proofs.Common.{◌≡◌, List, [], ◌∷◌, drop, refl, ap, ap₂, arith, sym, ◌∙◌}
use Rattle.std.specs.Prelude.{ℤ, pos, ◌+ℤ◌, ◌<ℤ◌, true, false}
use Rattle.std.specs.List.{AllByRecursion}
use Rattle.std.specs.List.Sorted.{IsStrictlySortedBy}
use Rattle.std.specs.declared.cmp.Ordering.TheVariants.{Less, Equal, Greater}
use Rattle.std.specs.Ordering.{int_cmp}
use Rattle.std.proofs.lemmas.Cmp.{int_cmp_total}
use Rattle.std.proofs.lemmas.Int.{ints}
use Rattle.ordered_lists.specs.Lists.{symmetric_difference}
use Rattle.ordered_lists.specs.Walks.{walk}
use Rattle.ordered_lists.proofs.WalkLemmas.{walk-symmetric_difference}
use Rattle.cut_points.specs.Cuts.{IsAscending}
use Rattle.cut_points.proofs.CutLemmas.{cmp_less, ascending_from}

all_above : (lo hi c : ℤ) (cs : List ℤ) → c <ℤ lo → IsAscending lo hi cs → AllByRecursion (λ d. int_cmp c d ≡ Less) cs
all_above lo hi c [] h a = tt
all_above lo hi c (d ∷ cs) h a = (cmp_less c d (omega (arith, ints)), all_above (d +ℤ pos 1) hi c cs (omega (arith, ints)) a.2)

sorted : (lo hi : ℤ) (cs : List ℤ) → IsAscending lo hi cs → IsStrictlySortedBy int_cmp cs
unfolding IsStrictlySortedBy
sorted lo hi [] a = tt
sorted lo hi (c ∷ cs) a = (all_above (c +ℤ pos 1) hi c cs (omega (arith, ints)) a.2, sorted (c +ℤ pos 1) hi cs a.2)

-- ---- one turn of the walk along both

module _ (lo hi : ℤ) where
  walked : (xs ys : List ℤ) → IsAscending lo hi xs → IsAscending lo hi ys → walk int_cmp true false true xs ys ≡ symmetric_difference int_cmp xs ys
  walked xs ys a b = walk-symmetric_difference int_cmp_total xs ys (sorted lo hi xs a) (sorted lo hi ys b)

  rest_ascends : (x : ℤ) (xs : List ℤ) → IsAscending lo hi (x ∷ xs) → IsAscending lo hi xs
  rest_ascends x xs a = ascending_from (x +ℤ pos 1) lo hi xs (omega (arith, ints)) a.2

  right_alone : (ys : List ℤ) → IsAscending lo hi ys → symmetric_difference int_cmp [] ys ≡ ys
  right_alone ys b = sym (walked [] ys tt b)

  -- no cut is left of the left side
  pub right_last : (left right new : List ℤ) (y : ℤ) (ys : List ℤ) → left ≡ [] → right ≡ y ∷ ys → IsAscending lo hi right → new ≡ drop 1 right
      → symmetric_difference int_cmp left right ≡ y ∷ symmetric_difference int_cmp left new
  right_last left right new y ys none is b passed =
      let all : IsAscending lo hi (y ∷ ys) = rw is at b in
      let others : new ≡ ys = passed ∙ ap (drop 1) is in
      rw (none, is, others) (right_alone (y ∷ ys) all ∙ ap (λ l. y ∷ l) (sym (right_alone ys (rest_ascends y ys all))))

  -- both sides have one: x on the left, and y on the right
  module _ (left right : List ℤ) (x : ℤ) (xs : List ℤ) (y : ℤ) (ys : List ℤ) (left_is : left ≡ x ∷ xs) (right_is : right ≡ y ∷ ys)
      (left_ascends : IsAscending lo hi left) (right_ascends : IsAscending lo hi right) where
    a : IsAscending lo hi (x ∷ xs)
    a = rw left_is at left_ascends

    b : IsAscending lo hi (y ∷ ys)
    b = rw right_is at right_ascends

    whole : symmetric_difference int_cmp left right ≡ walk int_cmp true false true (x ∷ xs) (y ∷ ys)
    whole = ap₂ (symmetric_difference int_cmp) left_is right_is ∙ sym (walked (x ∷ xs) (y ∷ ys) a b)

    pub left_first : (new : List ℤ) → new ≡ drop 1 left → Less ≡ int_cmp x y → symmetric_difference int_cmp left right ≡ x ∷ symmetric_difference int_cmp new right
    left_first new passed e =
        let others : new ≡ xs = passed ∙ ap (drop 1) left_is in
        let step : walk int_cmp true false true (x ∷ xs) (y ∷ ys) ≡ x ∷ walk int_cmp true false true xs (y ∷ ys) = rw (← e) refl in
        whole ∙ (step ∙ (ap (λ l. x ∷ l) (walked xs (y ∷ ys) (rest_ascends x xs a) b)
        ∙ ap₂ (λ l r. x ∷ symmetric_difference int_cmp l r) (sym others) (sym right_is)))

    pub right_first : (new : List ℤ) → new ≡ drop 1 right → Greater ≡ int_cmp x y → symmetric_difference int_cmp left right ≡ y ∷ symmetric_difference int_cmp left new
    right_first new passed e =
        let others : new ≡ ys = passed ∙ ap (drop 1) right_is in
        let step : walk int_cmp true false true (x ∷ xs) (y ∷ ys) ≡ y ∷ walk int_cmp true false true (x ∷ xs) ys = rw (← e) refl in
        whole ∙ (step ∙ (ap (λ l. y ∷ l) (walked (x ∷ xs) ys a (rest_ascends y ys b))
        ∙ ap₂ (λ l r. y ∷ symmetric_difference int_cmp l r) (sym left_is) (sym others)))

    pub neither : (left_new right_new : List ℤ) → left_new ≡ drop 1 left → right_new ≡ drop 1 right → Equal ≡ int_cmp x y
        → symmetric_difference int_cmp left right ≡ symmetric_difference int_cmp left_new right_new
    neither left_new right_new left_passed right_passed e =
        let left_others : left_new ≡ xs = left_passed ∙ ap (drop 1) left_is in
        let right_others : right_new ≡ ys = right_passed ∙ ap (drop 1) right_is in
        let step : walk int_cmp true false true (x ∷ xs) (y ∷ ys) ≡ walk int_cmp true false true xs ys = rw (← e) refl in
        whole ∙ (step ∙ (walked xs ys (rest_ascends x xs a) (rest_ascends y ys b)
        ∙ ap₂ (symmetric_difference int_cmp) (sym left_others) (sym right_others)))
