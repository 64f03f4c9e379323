-- What holds of canonical lists and of those that hold just the other numbers.
use Rattle.std.specs.Prelude.{◌≡◌, ℤ, ◌≤ℤ◌, not, List}
use Rattle.number_line.specs.Ranges.{holds, IsCanonical}

-- from lo to hi `other` holds just the numbers that `list` doesn't hold
abbrev pub IsNegated : ℤ → ℤ → List (ℤ × ℤ) → List (ℤ × ℤ) → Type 0
IsNegated lo hi list other = (x : ℤ) → lo ≤ℤ x → x ≤ℤ hi → holds other x ≡ not (holds list x)

-- a canonical list that is negated twice is the list
abbrev pub NegatedTwice : Type 0
NegatedTwice = (lo hi : ℤ) (list once twice : List (ℤ × ℤ)) → IsCanonical lo hi list → IsCanonical lo hi twice
    → IsNegated lo hi list once → IsNegated lo hi once twice → twice ≡ list
