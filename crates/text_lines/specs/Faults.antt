-- The first fault of lines, over any judge of one line.
use Rattle.std.specs.Prelude.{ℕ, ◌+◌, List, [], ◌∷◌, Option, Some, None}

-- the fault of the first line that has one, or none. The lines count from n; `judge` says what is wrong with a line by what is known before
-- it, and `learn` what is known after it
abbrev pub first_fault_from : {K L E : Type 0} → (K → ℕ → L → Option E) → (K → L → K) → K → ℕ → List L → Option E
first_fault_from judge learn known n [] = None
first_fault_from judge learn known n (l ∷ ls) =
    elim (judge known n l) [ Some f ↦ Some f | None ↦ first_fault_from judge learn (learn known l) (n + 1) ls ]
