-- Operators on a stack of truth values, which is seen as a list with the value that was pushed last first.
use Rattle.std.specs.Prelude.{Bool, false, List, [], ◌∷◌}

-- the values after an operator of one, or of two; where there are fewer, they stay as they are
abbrev pub on_one : (Bool → Bool) → List Bool → List Bool
on_one op [] = []
on_one op (a ∷ rest) = op a ∷ rest

abbrev pub on_two : (Bool → Bool → Bool) → List Bool → List Bool
on_two op [] = []
on_two op (b ∷ []) = b ∷ []
on_two op (b ∷ a ∷ rest) = op a b ∷ rest

-- the value that was pushed last; without one, false
abbrev pub last_value : List Bool → Bool
last_value [] = false
last_value (a ∷ rest) = a
