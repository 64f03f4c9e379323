-- Hints of how many items are to come.
use Rattle.std.specs.Prelude.{ℕ, Option, Some}

-- the hint that n items are to come
abbrev pub exactly : ℕ → ℕ × Option ℕ
exactly n = (n, Some n)
