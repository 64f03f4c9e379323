-- Pairs of a range and a value of which a later one wins over those before it.
use Rattle.std.specs.Prelude.{ℤ, Option, List, reverse}
use Rattle.number_line.specs.Valued.{value_at}

-- the value of the last pair whose range holds x, or none
abbrev pub last_value_at : {V : Type 0} → List ((ℤ × ℤ) × V) → ℤ → Option V
last_value_at pairs x = value_at (reverse pairs) x
