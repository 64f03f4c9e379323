-- Where a walk over several maps stands in each of them, and what holds a key there.
use Rattle.std.specs.Prelude.{◌≡◌, ℕ, ℤ, ◌≤◌, Bool, is_some, List, [], ◌∷◌, map, length, drop}
use Rattle.std.specs.Int.{int_min}
use Rattle.std.specs.List.{AllZip}
use Rattle.element_core.specs.Numbering.{Numbering}
use Rattle.number_line.specs.Pieces.{HoldersOfAll}
use Rattle.number_line.proofs.PieceLemmas.{IsHeld, IsLeft}
use Rattle.blaze_joins.specs.declared.many.Side.{Side}
use Rattle.blaze_joins.specs.PlaceView.{at_place}

-- the pair of each map at the place that the walk found
abbrev pub holders_in : {T V : Type 0} → List (List ((ℤ × ℤ) × V)) → List (Side T) → HoldersOfAll V
holders_in [] sides = []
holders_in (m ∷ maps) [] = []
holders_in (m ∷ maps) (s ∷ sides) = at_place m s.place ∷ holders_in maps sides

-- the least of the numbers, or hi
abbrev pub least_of : ℤ → List ℤ → ℤ
least_of hi [] = hi
least_of hi (n ∷ rest) = int_min n (least_of hi rest)

abbrev pub ends_of : {T : Type 0} → Numbering T → List (Side T) → List ℤ
ends_of {T} numbers sides = map (λ (s : Side T). numbers.number s.end) sides

module _ {T V : Type 0} (numbers : Numbering T) (same : V → V → Bool) (n : ℤ) where
  -- what comes before the place `at` of the map ends below n
  pub record IsPlace (m : List ((ℤ × ℤ) × V)) (at : ℕ) : Type 0 where
    pub within : at ≤ length m
    pub left : IsLeft same numbers.greatest numbers.least m (drop at m) n

  -- and the side tells what holds n, and up to where that stays
  pub record IsSideOf (m : List ((ℤ × ℤ) × V)) (side : Side T) : Type 0 where
    pub at : IsPlace m side.at
    pub is_value : numbers.IsValue side.end
    pub there : is_some side.place ≡ is_some (at_place m side.place)
    pub held : IsHeld same numbers.greatest (drop side.at m) n (numbers.number side.end) (at_place m side.place)

  abbrev pub AreSidesOf : List (List ((ℤ × ℤ) × V)) → List (Side T) → Type 0
  AreSidesOf maps sides = AllZip IsSideOf maps sides
