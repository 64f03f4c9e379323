-- Lists of ranges of a numbered type that carry a value each.
use Rattle.std.specs.Prelude.{ℤ, Bool, List, [], ◌∷◌, map}
use Rattle.element_core.specs.Numbering.{Numbering}
use Rattle.number_line.specs.Valued.{IsCanonicalMap}
use Rattle.range_map.specs.Range.{IsRange, in_numbers}

-- the same range in numbers, with its value
abbrev pub pair_in_numbers : {T V : Type 0} → Numbering T → (T × T) × V → (ℤ × ℤ) × V
pair_in_numbers numbers pair = (in_numbers numbers pair.0, pair.1)

-- the same list in numbers
abbrev pub pairs_in_numbers : {T V : Type 0} → Numbering T → List ((T × T) × V) → List ((ℤ × ℤ) × V)
pairs_in_numbers numbers pairs = map (pair_in_numbers numbers) pairs

-- each is a range
abbrev pub AreValuedRanges : {T V : Type 0} → Numbering T → List ((T × T) × V) → Type 0
AreValuedRanges numbers [] = Unit {0}
AreValuedRanges numbers (pair ∷ rest) = IsRange numbers pair.0 × AreValuedRanges numbers rest

-- the list of pairs that a map keeps; `same` compares values
pub record IsMap {T V : Type 0} (numbers : Numbering T) (same : V → V → Bool) (pairs : List ((T × T) × V)) : Type 0 where
  pub are_ranges : AreValuedRanges numbers pairs
  pub canonical : IsCanonicalMap same numbers.least numbers.greatest (pairs_in_numbers numbers pairs)
