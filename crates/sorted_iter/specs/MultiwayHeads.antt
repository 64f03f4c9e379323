-- Heads: streams with their next items in hand.
use Rattle.std.specs.Prelude.{◌≡◌, ℕ, ◌+◌, ◌⊎◌, Bool, false, List, [], ◌∷◌, ◌++◌, Option, Some, None, MatchOption, All, IsPermutation, sum_by}
use Rattle.std.specs.Iterator.{Count, IsFinite, size}
use Rattle.std.specs.List.{list_all}
use Rattle.std.specs.Ordering.{is_lt, is_eq}
use Rattle.std.specs.declared.cmp.Ordering.{Ordering}
use Rattle.sorted_iter.specs.declared.multiway.heads.InputHead.{InputHead}

module _ {S A : Type 0} where
  -- h has the lesser item
  abbrev pub before : (A → A → Ordering) → InputHead S A → InputHead S A → Bool
  before cmp h k = is_lt (cmp h.item k.item)

  -- the first head has an item equal to x
  abbrev pub starts_with : (A → A → Ordering) → List (InputHead S A) → A → Bool
  starts_with cmp [] x = false
  starts_with cmp (h ∷ hs) x = is_eq (cmp x h.item)

  -- the input of a head may be called and ends
  abbrev pub can_go : (S → Type 0) → (S → Count) → InputHead S A → Type 0
  can_go can left h = can h.rest × IsFinite (left h.rest)

  -- how many items the heads and their inputs have at most
  abbrev pub heads_left : (S → Count) → List (InputHead S A) → ℕ
  heads_left left hs = sum_by (λ h. size (left h.rest) + 1) hs

  -- the same as a count, with no bound where some input has none
  abbrev pub heads_count : (S → Count) → List (InputHead S A) → Count
  heads_count left hs = record { bounded = list_all (λ h. (left h.rest).bounded) hs; bound = heads_left left hs }

  module _ (steps : S → Option A → S → Type 0) where
    -- the input s was asked for an item: it has ended, or it is now one head
    abbrev pub Begun : S → List (InputHead S A) → Type 0
    Begun s one = ((u : S) × steps s None u × (one ≡ [])) ⊎ ((y : A) × (u : S) × steps s (Some y) u
        × (one ≡ record { item = y; rest = u } ∷ []))

    -- `advance`: the item went out and the next one came in, or the input has ended and the item stays
    abbrev pub GoesOn : InputHead S A → Option A → InputHead S A → Type 0
    GoesOn h r k = MatchOption r (steps h.rest None k.rest × (k.item ≡ h.item))
        (λ x. (x ≡ h.item) × steps h.rest (Some k.item) k.rest)

-- The item x of one of the heads hs goes out, and no other head has a lesser one. That head is asked for its input's next item, and
-- then ks are the heads.
abbrev pub TakesLeast : {S A : Type 0} → (A → A → Ordering) → (S → Option A → S → Type 0) → List (InputHead S A) → A → List (InputHead S A)
    → Type 0
TakesLeast {S} {A} cmp steps hs x ks = (h : InputHead S A) × (others : List (InputHead S A)) × (one : List (InputHead S A))
    × IsPermutation hs (h ∷ others) × (h.item ≡ x)
    × All (λ k. is_lt (cmp k.item x) ≡ false) others × Begun steps h.rest one × IsPermutation (one ++ others) ks
