-- The numbers in the ranges of a list, one by one.
use Rattle.std.specs.Prelude.{ℕ, zero, suc, ℤ, pos, ◌+ℤ◌, ◌-ℤ◌, unsigned_abs, List, [], ◌∷◌, ◌++◌}

-- the n numbers from lo on
abbrev pub numbers_from : ℤ → ℕ → List ℤ
numbers_from lo zero = []
numbers_from lo (suc n) = lo ∷ numbers_from (lo +ℤ pos 1) n

-- how many numbers lie in a range that isn't empty
abbrev pub size : ℤ × ℤ → ℕ
size r = suc (unsigned_abs (r.1 -ℤ r.0))

-- the numbers of each range in turn
abbrev pub members : List (ℤ × ℤ) → List ℤ
members [] = []
members (r ∷ rest) = numbers_from r.0 (size r) ++ members rest
