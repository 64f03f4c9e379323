-- The numbers of a document: the whole numbers of 64 bits with a sign.
use Rattle.std.specs.Prelude.{ℕ, ℤ, pos, negsuc, Bool, List}
use Rattle.number_line.specs.Segments.{runs}

unfoldable pub least : ℤ
least = negsuc 9223372036854775807

unfoldable pub greatest : ℤ
greatest = pos 9223372036854775807

-- how many of them are above the least
abbrev pub above_least : ℕ
above_least = 18446744073709551615

-- the maximal runs of the numbers at which f is true
unfoldable pub i64_runs : (ℤ → Bool) → List (ℤ × ℤ)
i64_runs f = runs f least above_least
