-- Which of several ranges have begun, as a number ascends, and which is the last that holds it. Ranges are known by their places.
use Rattle.std.specs.Prelude.{◌≡◌, ◌≤◌, ℕ, suc, ℤ, ◌≤ℤ◌, Bool, true, false, ◌||◌, Option, Some, None, List, [], ◌∷◌, map}
use Rattle.std.specs.List.{All, slice_get}
use Rattle.number_line.specs.Ranges.{lies_in}
use Rattle.range_map.specs.Bounds.{has_place}

-- the places of the ranges that have begun, in any order, and where the others begin
pub record Begun : Type 0 where
  pub places : List ℕ
  pub rest : List (ℤ × ℕ)

-- the range at `place` begins at n or before it
abbrev pub BeginsBy : List (ℤ × ℤ) → ℤ → ℕ → Type 0
BeginsBy ranges n place = (r : ℤ × ℤ) × (slice_get ranges place ≡ Some r) × (r.0 ≤ℤ n)

-- a number and the place of a range that begins there
abbrev pub IsStartOf : List (ℤ × ℤ) → ℤ × ℕ → Type 0
IsStartOf ranges start = (r : ℤ × ℤ) × (slice_get ranges start.1 ≡ Some r) × (r.0 ≡ start.0)

-- the place has begun, or is one of the others
abbrev pub is_known : Begun → ℕ → Bool
is_known begun place = has_place begun.places place || has_place (map (λ start. start.1) begun.rest) place

-- the places are of ranges that begin at n or before it, the others begin where they say, and no range that holds n or a greater number
-- is left out
pub record AreBegun (ranges : List (ℤ × ℤ)) (n : ℤ) (begun : Begun) : Type 0 where
  pub before : (place : ℕ) → has_place begun.places place ≡ true → BeginsBy ranges n place
  pub starts : All (IsStartOf ranges) begun.rest
  pub complete : (place : ℕ) (r : ℤ × ℤ) (x : ℤ) → slice_get ranges place ≡ Some r → n ≤ℤ x → lies_in r x ≡ true
      → is_known begun place ≡ true

-- no range from the place n on holds x
abbrev pub NoneHoldsFrom : List (ℤ × ℤ) → ℕ → ℤ → Type 0
NoneHoldsFrom ranges n x = (place : ℕ) (r : ℤ × ℤ) → n ≤ place → slice_get ranges place ≡ Some r → lies_in r x ≡ false

-- the range at that place holds x and no later one does, or none does at all
abbrev pub IsLastAt : List (ℤ × ℤ) → ℤ → Option ℕ → Type 0
IsLastAt ranges x None = NoneHoldsFrom ranges 0 x
IsLastAt ranges x (Some place) = (r : ℤ × ℤ) × (slice_get ranges place ≡ Some r) × (lies_in r x ≡ true) × NoneHoldsFrom ranges (suc place) x

-- the same place is the last at each number from x to `end`
abbrev pub IsLastTo : List (ℤ × ℤ) → ℤ → Option ℕ → ℤ → Type 0
IsLastTo ranges x place end = (x ≤ℤ end) × ((y : ℤ) → x ≤ℤ y → y ≤ℤ end → IsLastAt ranges y place)

-- the range at the first place, if any, ends at n or behind it
abbrev pub FirstReaches : List (ℤ × ℤ) → ℤ → List ℕ → Type 0
FirstReaches ranges n [] = Unit {0}
FirstReaches ranges n (place ∷ rest) = (r : ℤ × ℤ) × (slice_get ranges place ≡ Some r) × (n ≤ℤ r.1)
