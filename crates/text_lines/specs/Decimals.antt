-- The one form in which a text writes a number: `0`, or an optional `-`, a digit 1 to 9 and further digits.
use Rattle.std.specs.Prelude.{ℕ, ℤ, Bool, false, not, ◌&&◌, ◌==◌, int_le, if◌then◌else◌, List, [], ◌∷◌, bytes_eq, codes, Option, Some, None}
use Rattle.std.specs.Str.{all_ascii_digits}
use Rattle.std.specs.Str.Parse.{signed_digits_value}
use Rattle.std.specs.Char.{is_ascii_digit}

-- `0`, or digits of which the first is not `0`
abbrev pub is_decimal : List ℕ → Bool
is_decimal [] = false
is_decimal (c ∷ []) = is_ascii_digit c
is_decimal (c ∷ d ∷ ds) = not (c == 48) && all_ascii_digits (c ∷ d ∷ ds)

-- a decimal, or `-` and a decimal that is not `0`
abbrev pub has_number_form : List ℕ → Bool
has_number_form [] = false
has_number_form (c ∷ cs) = if c == 45 then is_decimal cs && not (bytes_eq cs (codes "0")) else is_decimal (c ∷ cs)

abbrev pub is_between : ℤ → ℤ → ℤ → Bool
is_between lo hi z = int_le lo z && int_le z hi

-- the number from lo to hi that a piece writes, or none
abbrev pub number_between : ℤ → ℤ → List ℕ → Option ℤ
number_between lo hi piece =
    if has_number_form piece && is_between lo hi (signed_digits_value 10 piece) then Some (signed_digits_value 10 piece) else None
