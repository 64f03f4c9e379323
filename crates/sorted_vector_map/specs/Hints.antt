-- Hints of how many items are to come.
use Rattle.std.specs.Prelude.{◌≡◌, ℕ, Option, Some, IfSome}
use Rattle.std.specs.Iterator.{at_most, UpTo}
use Rattle.std.specs.Iterator.SizeHint.{IsWithinCount}

-- the hint that n items are to come
abbrev pub exactly : ℕ → ℕ × Option ℕ
exactly n = (n, Some n)

-- the hint is that exactly n items are to come, and so it keeps what std asks of a hint
abbrev pub IsExact : ℕ → ℕ × Option ℕ → Type 0
IsExact n hint = (hint ≡ exactly n) × IsWithinCount hint.0 (at_most n) × IfSome hint.1 (UpTo (at_most n))
