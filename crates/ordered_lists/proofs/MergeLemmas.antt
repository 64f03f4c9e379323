-- Placing the items of a second list in order is a merge.
use Rattle.std.proofs.Common.{◌≡◌, zero, ◌<◌, List, [], ◌∷◌, ◌++◌, length, Option, Some, None, IsSome, refl, sym, ap, ◌∙◌, subst, arith}
use Rattle.std.specs.declared.cmp.Ordering.{Ordering}
use Rattle.std.specs.declared.cmp.Ordering.TheVariants.{Less, Equal, Greater}
use Rattle.std.specs.Cmp.{IsTotalOrder}
use Rattle.std.specs.List.{AllByRecursion}
use Rattle.std.specs.List.Sorted.{IsStrictlySortedBy}
use Rattle.std.specs.Option.{option_to_list}
use Rattle.std.proofs.lemmas.Bool.{false≢true}
use Rattle.ordered_lists.specs.Lists.{set, sets}
use Rattle.ordered_lists.specs.Merge.{side}
use Rattle.ordered_lists.proofs.PlaceLemmas.{below_all, set_ascends}

pub no_item : {A : Type 0} (xs : List A) → length xs ≡ zero → xs ≡ []
no_item [] none = refl
no_item (x ∷ xs) none = absurd (omega arith)

module _ {A : Type 0} (cmp : A → A → Ordering) where
  -- an item below all of the second list stays first
  sets_skip : (x : A) (xs ys : List A) → AllByRecursion (λ y. cmp x y ≡ Less) ys → sets cmp (x ∷ xs) ys ≡ x ∷ sets cmp xs ys
  sets_skip x xs [] all = refl
  sets_skip x xs (y ∷ ys) all = rw all.0 (sets_skip x (set cmp xs y) ys all.1)

  -- items below all of the second list stay in front
  pub sets_front : (front xs ys : List A) → AllByRecursion (λ x. AllByRecursion (λ y. cmp x y ≡ Less) ys) front → sets cmp (front ++ xs) ys ≡ front ++ sets cmp xs ys
  sets_front [] xs ys all = refl
  sets_front (x ∷ front) xs ys all = sets_skip x (front ++ xs) ys all.0 ∙ ap (λ t. x ∷ t) (sets_front front xs ys all.1)

  pub sets_none : (ys : List A) → IsStrictlySortedBy cmp ys → sets cmp [] ys ≡ ys
  unfolding IsStrictlySortedBy
  sets_none [] a = refl
  sets_none (y ∷ ys) a = sets_skip y [] ys a.0 ∙ ap (λ t. y ∷ t) (sets_none ys a.1)

  -- a merge of a tail with the new items, behind a front that stays, gives all; `kept` may stand for the new items
  pub merged_behind : (whole front tail new kept : List A) → whole ≡ front ++ tail → ((l : List A) → sets cmp (front ++ l) new ≡ front ++ sets cmp l new) → sets cmp tail kept ≡ sets cmp tail new
      → front ++ sets cmp tail kept ≡ sets cmp whole new
  merged_behind whole front tail new kept parts stays same = ap (λ t. front ++ t) same ∙ sym (stays tail) ∙ ap (λ t. sets cmp t new) (sym parts)

  module _ (o : IsTotalOrder cmp) where
    pub sets_ascend : (xs ys : List A) → IsStrictlySortedBy cmp xs → IsStrictlySortedBy cmp (sets cmp xs ys)
    sets_ascend xs [] a = a
    sets_ascend xs (y ∷ ys) a = sets_ascend (set cmp xs y) ys (set_ascends o xs y a)

    left_first : (x : A) (xs ys : List A) → IsStrictlySortedBy cmp ys → side cmp (x ∷ xs) ys ≡ Less → sets cmp (x ∷ xs) ys ≡ x ∷ sets cmp xs ys
    unfolding IsStrictlySortedBy
    left_first x xs [] a less = refl
    left_first x xs (y ∷ ys) a less = sets_skip x xs (y ∷ ys) (less, below_all o x y ys less a.0)

    right_first : (xs : List A) (y : A) (ys : List A) → IsStrictlySortedBy cmp (y ∷ ys) → side cmp xs (y ∷ ys) ≡ Greater → sets cmp xs (y ∷ ys) ≡ y ∷ sets cmp xs ys
    unfolding IsStrictlySortedBy
    right_first [] y ys a greater = sets_skip y [] ys a.0
    right_first (x ∷ xs) y ys a greater = rw greater (sets_skip y (x ∷ xs) ys a.0)

    both_first : (x : A) (xs : List A) (y : A) (ys : List A) → IsStrictlySortedBy cmp (y ∷ ys) → side cmp (x ∷ xs) (y ∷ ys) ≡ Equal → sets cmp (x ∷ xs) (y ∷ ys) ≡ y ∷ sets cmp xs ys
    unfolding IsStrictlySortedBy
    both_first x xs y ys a equal = rw equal (sets_skip y xs ys a.0)

    -- the same as what a pop from the front leaves
    pub less_step : (xs ys xs' : List A) (r : Option A) → IsStrictlySortedBy cmp ys → side cmp xs ys ≡ Less → xs ≡ option_to_list r ++ xs' → (0 < length xs → IsSome r)
        → sets cmp xs ys ≡ option_to_list r ++ sets cmp xs' ys
    less_step [] ys xs' r a less is some = cc
    less_step (x ∷ xs) ys xs' None a less is some = absurd (false≢true (some (omega arith)))
    less_step (x ∷ xs) ys xs' (Some z) a less is some = ap (λ t. sets cmp t ys) is ∙ left_first z xs' ys a (subst (λ t. side cmp t ys ≡ Less) is less)

    pub greater_step : (xs ys ys' : List A) (r : Option A) → IsStrictlySortedBy cmp ys → side cmp xs ys ≡ Greater → ys ≡ option_to_list r ++ ys' → (0 < length ys → IsSome r)
        → sets cmp xs ys ≡ option_to_list r ++ sets cmp xs ys'
    greater_step [] [] ys' None a greater is some = ap (sets cmp []) is
    greater_step [] [] ys' (Some z) a greater is some = cc
    greater_step (x ∷ xs) [] ys' r a greater is some = cc
    greater_step xs (y ∷ ys) ys' None a greater is some = absurd (false≢true (some (omega arith)))
    greater_step xs (y ∷ ys) ys' (Some z) a greater is some = ap (sets cmp xs) is ∙ right_first xs z ys' (subst (IsStrictlySortedBy cmp) is a) (subst (λ t. side cmp xs t ≡ Greater) is greater)

    pub equal_step : (xs ys xs' ys' : List A) (p r : Option A) → IsStrictlySortedBy cmp ys → side cmp xs ys ≡ Equal → xs ≡ option_to_list p ++ xs' → ys ≡ option_to_list r ++ ys'
        → (0 < length xs → IsSome p) → (0 < length ys → IsSome r) → sets cmp xs ys ≡ option_to_list r ++ sets cmp xs' ys'
    equal_step [] ys xs' ys' p r a equal is is' some some' = cc
    equal_step (x ∷ xs) [] xs' ys' p r a equal is is' some some' = cc
    equal_step (x ∷ xs) (y ∷ ys) xs' ys' None r a equal is is' some some' = absurd (false≢true (some (omega arith)))
    equal_step (x ∷ xs) (y ∷ ys) xs' ys' (Some w) None a equal is is' some some' = absurd (false≢true (some' (omega arith)))
    equal_step (x ∷ xs) (y ∷ ys) xs' ys' (Some w) (Some z) a equal is is' some some' =
        (λ i. sets cmp (is i) (is' i)) ∙ both_first w xs' z ys' (subst (IsStrictlySortedBy cmp) is' a) (subst (λ t. side cmp (w ∷ xs') t ≡ Equal) is' (subst (λ t. side cmp t (y ∷ ys) ≡ Equal) is equal))

    -- what is left of a list in order after a pop from its front is in order
    pub rest_ascends : (ys ys' : List A) (r : Option A) → ys ≡ option_to_list r ++ ys' → IsStrictlySortedBy cmp ys → IsStrictlySortedBy cmp ys'
    unfolding IsStrictlySortedBy
    rest_ascends ys ys' None is a = subst (IsStrictlySortedBy cmp) is a
    rest_ascends ys ys' (Some z) is a = (subst (IsStrictlySortedBy cmp) is a).1
