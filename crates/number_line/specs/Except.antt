-- Numbers given one after another, and the ranges of all the others.
use Rattle.std.specs.Prelude.{◌≡◌, ℤ, ◌≤ℤ◌, Bool, true, false, not, ◌&&◌, int_le, Option, Some, None, List, [], ◌∷◌}
use Rattle.std.specs.List.{list_any}
use Rattle.std.specs.Ordering.{int_eq}
use Rattle.number_line.specs.Ranges.{holds, IsCanonical}

-- none of the numbers is less than the one before it, the first not less than n
abbrev pub never_fall_from : ℤ → List ℤ → Bool
never_fall_from n [] = true
never_fall_from n (x ∷ rest) = int_le n x && never_fall_from x rest

-- none of the numbers is less than the one before it
abbrev pub never_fall : List ℤ → Bool
never_fall [] = true
never_fall (x ∷ rest) = never_fall_from x rest

-- x is one of the numbers
abbrev pub is_among : List ℤ → ℤ → Bool
is_among numbers x = list_any (λ n. int_eq n x) numbers

-- the set is canonical, and holds just the numbers from lo to hi that aren't among the given ones
pub record IsAllBut (lo hi : ℤ) (numbers : List ℤ) (set : List (ℤ × ℤ)) : Type 0 where
  pub canonical : IsCanonical lo hi set
  pub members : (x : ℤ) → lo ≤ℤ x → x ≤ℤ hi → holds set x ≡ not (is_among numbers x)

-- no set where some number is less than the one before it, and else the set of all others
abbrev pub IsExcept : ℤ → ℤ → List ℤ → Option (List (ℤ × ℤ)) → Type 0
IsExcept lo hi numbers None = never_fall numbers ≡ false
IsExcept lo hi numbers (Some set) = (never_fall numbers ≡ true) × IsAllBut lo hi numbers set
