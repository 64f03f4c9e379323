-- The parts of ranges with values that lie in the ranges of a list, and copies of lists whose values are clones.
use Rattle.std.specs.Prelude.{◌≡◌, ℤ, if◌then◌else◌, Option, None, List, [], ◌∷◌, ◌++◌, map}
use Rattle.std.specs.Int.{int_min, int_max}
use Rattle.std.specs.List.{AllZip}
use Rattle.number_line.specs.Ranges.{holds}
use Rattle.number_line.specs.Kept.{overlaps}
use Rattle.number_line.specs.Valued.{value_at}

-- the numbers of two ranges that overlap, as a range
abbrev pub common : ℤ × ℤ → ℤ × ℤ → ℤ × ℤ
common r s = (int_max r.0 s.0, int_min r.1 s.1)

-- what the range r has in common with each range of the list that it overlaps, in the order of the list
abbrev pub parts : ℤ × ℤ → List (ℤ × ℤ) → List (ℤ × ℤ)
parts r [] = []
parts r (s ∷ rest) = if overlaps r s then common r s ∷ parts r rest else parts r rest

-- the ranges, each with the value v
abbrev pub all_with : {V : Type 0} → V → List (ℤ × ℤ) → List ((ℤ × ℤ) × V)
all_with v ranges = map (λ r. (r, v)) ranges

-- for each pair in turn its parts in the ranges of the list, each with the pair's value
abbrev pub parts_of_pairs : {V : Type 0} → List ((ℤ × ℤ) × V) → List (ℤ × ℤ) → List ((ℤ × ℤ) × V)
parts_of_pairs [] ranges = []
parts_of_pairs (p ∷ rest) ranges = all_with p.1 (parts p.0 ranges) ++ parts_of_pairs rest ranges

-- the value at x where some range holds x, and else none
abbrev pub value_within : {V : Type 0} → List ((ℤ × ℤ) × V) → List (ℤ × ℤ) → ℤ → Option V
value_within pairs ranges x = if holds ranges x then value_at pairs x else None

-- one range, and a clone of the value
abbrev pub IsPairClone : {V : Type 0} → (V → V → Type 0) → (ℤ × ℤ) × V → (ℤ × ℤ) × V → Type 0
IsPairClone is_clone p copy = (copy.0 ≡ p.0) × is_clone p.1 copy.1

-- each pair of the copy is a clone of the pair of the list in its turn
abbrev pub ArePairClones : {V : Type 0} → (V → V → Type 0) → List ((ℤ × ℤ) × V) → List ((ℤ × ℤ) × V) → Type 0
ArePairClones is_clone list copy = AllZip (IsPairClone is_clone) list copy
