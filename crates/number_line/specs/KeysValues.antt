-- The numbers in the ranges of a list, one by one, each with the value of its range.
use Rattle.std.specs.Prelude.{ℤ, List, [], ◌∷◌, ◌++◌, map}
use Rattle.number_line.specs.Members.{numbers_from, size}

-- the numbers, each with the value v
abbrev pub each_with : {V : Type 0} → V → List ℤ → List (ℤ × V)
each_with v numbers = map (λ x. (x, v)) numbers

-- the numbers of each range in turn, each with the value of the range
abbrev pub keys_values : {V : Type 0} → List ((ℤ × ℤ) × V) → List (ℤ × V)
keys_values [] = []
keys_values (p ∷ rest) = each_with p.1 (numbers_from p.0.0 (size p.0)) ++ keys_values rest
