-- Values that are left out of a set one after another.
use Rattle.std.specs.Prelude.{ℤ, pos, ◌+ℤ◌, Option, Some, None}
use Rattle.element_core.specs.Numbering.{Numbering}

-- the number behind the last value, or the least one where there is none
abbrev pub number_after : {T : Type 0} → Numbering T → Option T → ℤ
number_after numbers None = numbers.least
number_after numbers (Some last) = numbers.number last +ℤ pos 1
