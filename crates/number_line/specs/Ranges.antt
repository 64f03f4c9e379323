-- Ranges of whole numbers, each by its first and its last number, and lists of them.
use Rattle.std.specs.Prelude.{ℤ, pos, ◌+ℤ◌, ◌≤ℤ◌, Bool, true, false, not, ◌&&◌, ◌||◌, int_le, List, [], ◌∷◌}

-- x lies from the first number of the range to its last
abbrev pub lies_in : ℤ × ℤ → ℤ → Bool
lies_in r x = int_le r.0 x && int_le x r.1

-- true where just one of the two is
abbrev pub xor : Bool → Bool → Bool
xor true b = not b
xor false b = b

-- some range of the list holds x
abbrev pub holds : List (ℤ × ℤ) → ℤ → Bool
holds [] x = false
holds (r ∷ rest) x = lies_in r x || holds rest x

-- the ranges lie between lo and hi, none is empty, and each begins two or more past the end of the one before it
abbrev pub IsCanonical : ℤ → ℤ → List (ℤ × ℤ) → Type 0
IsCanonical lo hi [] = Unit {0}
IsCanonical lo hi (r ∷ rest) = (lo ≤ℤ r.0) × (r.0 ≤ℤ r.1) × (r.1 ≤ℤ hi) × IsCanonical (r.1 +ℤ pos 2) hi rest
