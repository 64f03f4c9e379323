-- Ranges of a numbered type, each a pair of the first and the last value, and the same ranges in numbers.
use Rattle.std.specs.Prelude.{ℤ, ◌≤ℤ◌, int_lt, if◌then◌else◌}
use Rattle.std.specs.declared.cmp.Ordering.{Ordering}
use Rattle.std.specs.declared.cmp.Ordering.TheVariants.{Less, Equal, Greater}
use Rattle.element_core.specs.Numbering.{Numbering}

-- the two ends are values of the type, in order
pub record IsRange {T : Type 0} (numbers : Numbering T) (range : T × T) : Type 0 where
  pub start : numbers.IsValue range.0
  pub end : numbers.IsValue range.1
  pub ordered : numbers.number range.0 ≤ℤ numbers.number range.1

-- the numbers of the two ends
abbrev pub in_numbers : {T : Type 0} → Numbering T → T × T → ℤ × ℤ
in_numbers numbers range = (numbers.number range.0, numbers.number range.1)

-- each number of the type has the property
abbrev pub EachNumber : {T : Type 0} → Numbering T → (ℤ → Type 0) → Type 0
EachNumber numbers P = (x : ℤ) → numbers.least ≤ℤ x → x ≤ℤ numbers.greatest → P x

-- where a range of numbers lies beside x: below it, above it, or around it
abbrev pub place_beside : ℤ → ℤ × ℤ → Ordering
place_beside x range = if int_lt range.1 x then Less else if int_lt x range.0 then Greater else Equal
