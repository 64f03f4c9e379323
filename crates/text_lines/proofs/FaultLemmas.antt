use Rattle.std.proofs.Common.{◌≡◌, ℕ, ◌+◌, List, ◌∷◌, refl}
use Rattle.std.specs.Prelude.{Option, None}
use Rattle.text_lines.specs.Faults.{first_fault_from}

-- a line without a fault leaves the first fault to those behind it
pub fault_behind : {K L E : Type 0} (judge : K → ℕ → L → Option E) (learn : K → L → K) (known : K) (n : ℕ) (l : L) (ls : List L)
    → judge known n l ≡ None → first_fault_from judge learn known n (l ∷ ls) ≡ first_fault_from judge learn (learn known l) (n + 1) ls
fault_behind judge learn known n l ls e = rw (e, first_fault_from) refl
