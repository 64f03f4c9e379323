-- Lists of ranges of a numbered type.
use Rattle.std.specs.Prelude.{ℤ, List, [], ◌∷◌, map}
use Rattle.element_core.specs.Numbering.{Numbering}
use Rattle.number_line.specs.Ranges.{IsCanonical}
use Rattle.range_map.specs.Range.{IsRange, in_numbers}

-- the same ranges in numbers
abbrev pub all_in_numbers : {T : Type 0} → Numbering T → List (T × T) → List (ℤ × ℤ)
all_in_numbers numbers ranges = map (in_numbers numbers) ranges

-- each is a range
abbrev pub AreRanges : {T : Type 0} → Numbering T → List (T × T) → Type 0
AreRanges numbers [] = Unit {0}
AreRanges numbers (range ∷ rest) = IsRange numbers range × AreRanges numbers rest

-- the list of ranges that a set keeps
pub record IsSet {T : Type 0} (numbers : Numbering T) (ranges : List (T × T)) : Type 0 where
  pub are_ranges : AreRanges numbers ranges
  pub canonical : IsCanonical numbers.least numbers.greatest (all_in_numbers numbers ranges)
