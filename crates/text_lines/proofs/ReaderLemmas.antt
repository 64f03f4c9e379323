-- What is read of a number: its sign, its digits and its value.
use Rattle.std.proofs.Common.{◌≡◌, ◌≢◌, ℕ, ◌≤◌, List, [], ◌∷◌, drop, refl, ap, arith, cond, w64}
use Rattle.std.specs.Prelude.{ℤ, pos, negsuc, neg_ℤ, Bool, true, false, not, ◌&&◌, nat_le, ◌==◌, if◌then◌else◌, bytes_eq, codes, Some, None, Result, Ok, Err, FitsSigned}
use Rattle.std.proofs.lemmas.Bool.Decides.{nat_tests}
use Rattle.std.proofs.lemmas.Str.Parse.{IsNumeralModel, numerals_by_value, tells_all_ascii_digits, without_leading_plus_none, digit_at}
use Rattle.std.specs.Str.{all_ascii_digits, IsUtf8}
use Rattle.std.specs.Str.Parse.{IsNumeral, ParsesSigned, digits_value, signed_digits_value, without_leading_plus, without_leading_sign}
use Rattle.std.specs.Result.{result_ok}
use Rattle.std.proofs.lemmas.Str.{IsUtf8-from_ascii}
use Rattle.std.proofs.lemmas.Str.Ascii.{IsAscii-cons}
use Rattle.std.proofs.lemmas.Fmt.{IsAscii-from_digits}
use Rattle.std.specs.Int.{Width}
use Rattle.text_lines.specs.Decimals.{is_decimal, has_number_form, is_between, number_between}

pub own : IsNumeralModel (λ ds. all_ascii_digits ds ≡ true) (digits_value 10)
own = numerals_by_value _ tells_all_ascii_digits

pub and_left : (p q : Bool) → (p && q) ≡ true → p ≡ true
and_left true q e = refl
and_left false q e = e

pub and_right : (p q : Bool) → (p && q) ≡ true → q ≡ true
and_right true q e = e
and_right false true e = refl
and_right false false e = e

pub decimal_digits : (ds : List ℕ) → is_decimal ds ≡ true → all_ascii_digits ds ≡ true
decimal_digits [] e = refl
decimal_digits (c ∷ []) e = rw e
decimal_digits (c ∷ d ∷ ds) e = and_right (not (c == 48)) (all_ascii_digits (c ∷ d ∷ ds)) e

pub decimal_numeral : (ds : List ℕ) → is_decimal ds ≡ true → IsNumeral 10 ds
decimal_numeral [] e = absurd (cc)
decimal_numeral (c ∷ cs) e = (omega arith, own.to (c ∷ cs) (decimal_digits (c ∷ cs) e))

digit_no_plus : (c : ℕ) (cs : List ℕ) → all_ascii_digits (c ∷ cs) ≡ true → c ≢ 43
digit_no_plus c cs e = let d = digit_at (c ∷ cs) 0 (own.to (c ∷ cs) e) (omega arith) in λ z. absurd (omega (arith, d.0))

pub form_numeral : (bs : List ℕ) → has_number_form bs ≡ true → IsNumeral 10 (without_leading_sign bs)
form_numeral [] e = absurd (cc)
form_numeral (c ∷ cs) e = at (c == 45) refl e
  where
    at : (b : Bool) → (c == 45) ≡ b → (if b then is_decimal cs && not (bytes_eq cs (codes "0")) else is_decimal (c ∷ cs)) ≡ true → IsNumeral 10 (cond b (drop 1 (c ∷ cs)) (without_leading_plus (c ∷ cs)))
    at true e h = decimal_numeral cs (and_left (is_decimal cs) (not (bytes_eq cs (codes "0"))) h)
    at false e h = rw (without_leading_plus_none (c ∷ cs) (digit_no_plus c cs (decimal_digits (c ∷ cs) h))) (decimal_numeral (c ∷ cs) h)

below : (a b : ℕ) → nat_le a b ≡ true → a ≤ b
below a b e = grind (arith, nat_tests)

is_below : (a b : ℕ) → a ≤ b → nat_le a b ≡ true
is_below a b e = grind (arith, nat_tests)

-- the numbers between two ends are those that fit so many bits
pub record AreEnds (w : Width) (lo hi : ℤ) : Type 0 where
  pub fit : (z : ℤ) → is_between lo hi z ≡ true → FitsSigned w z
  pub hold : (z : ℤ) → FitsSigned w z → is_between lo hi z ≡ true

pub ends_of_i64 : AreEnds w64 (negsuc 9223372036854775807) (pos 9223372036854775807)
ends_of_i64 = record { fit = fit; hold = hold }
  where
    fit : (z : ℤ) → is_between (negsuc 9223372036854775807) (pos 9223372036854775807) z ≡ true → FitsSigned w64 z
    fit (pos n) e = let k : n ≤ 9223372036854775807 = below n 9223372036854775807 e in record { sfits = omega arith }
    fit (negsuc n) e =
        let k : n ≤ 9223372036854775807 = below n 9223372036854775807 (and_left (nat_le n 9223372036854775807) true e) in
        record { sfits = omega arith }

    hold : (z : ℤ) → FitsSigned w64 z → is_between (negsuc 9223372036854775807) (pos 9223372036854775807) z ≡ true
    hold (pos n) e = is_below n 9223372036854775807 (omega (arith, e.sfits))
    hold (negsuc n) e =
        let k : nat_le n 9223372036854775807 ≡ true = is_below n 9223372036854775807 (omega (arith, e.sfits)) in rw k

-- what std parses of a number's form is the number between the type's ends
pub number_parsed : {E : Type 0} (w : Width) (lo hi : ℤ) (bs : List ℕ) (r : Result ℤ E) → AreEnds w lo hi → has_number_form bs ≡ true
    → ParsesSigned w 10 bs r → result_ok r ≡ number_between lo hi bs
number_parsed w lo hi bs (Ok v) ends f p =
    let i = ends.hold (signed_digits_value 10 bs) p.0.1 in rw (f, i) (ap Some p.1)
number_parsed w lo hi bs (Err e) ends f p = at (is_between lo hi (signed_digits_value 10 bs)) refl
  where
    at : (b : Bool) → is_between lo hi (signed_digits_value 10 bs) ≡ b → None ≡ number_between lo hi bs
    at true h = absurd (p (form_numeral bs f, ends.fit (signed_digits_value 10 bs) h))
    at false h = rw (f, h)

-- a number is text
pub number_is_utf8 : (bs : List ℕ) → has_number_form bs ≡ true → IsUtf8 bs
number_is_utf8 [] f = absurd (cc)
number_is_utf8 (c ∷ cs) f = at (c == 45) refl f
  where
    at : (b : Bool) → (c == 45) ≡ b → (if b then is_decimal cs && not (bytes_eq cs (codes "0")) else is_decimal (c ∷ cs)) ≡ true → IsUtf8 (c ∷ cs)
    at true e h =
        let k : c ≡ 45 = grind (arith, nat_tests) in
        IsUtf8-from_ascii (c ∷ cs) (IsAscii-cons c cs (omega arith) (IsAscii-from_digits cs (own.to cs (decimal_digits cs (and_left (is_decimal cs) (not (bytes_eq cs (codes "0"))) h)))))
    at false e h = IsUtf8-from_ascii (c ∷ cs) (IsAscii-from_digits (c ∷ cs) (own.to (c ∷ cs) (decimal_digits (c ∷ cs) h)))

-- the value of a number's form, by its sign
pub form_value : (c : ℕ) (cs : List ℕ) → has_number_form (c ∷ cs) ≡ true
    → signed_digits_value 10 (c ∷ cs) ≡ (if c == 45 then neg_ℤ (pos (digits_value 10 cs)) else pos (digits_value 10 (c ∷ cs)))
form_value c cs f = at (c == 45) refl f
  where
    at : (b : Bool) → (c == 45) ≡ b → (if b then is_decimal cs && not (bytes_eq cs (codes "0")) else is_decimal (c ∷ cs)) ≡ true
        → cond b (neg_ℤ (pos (digits_value 10 (cond b (drop 1 (c ∷ cs)) (without_leading_plus (c ∷ cs)))))) (pos (digits_value 10 (cond b (drop 1 (c ∷ cs)) (without_leading_plus (c ∷ cs)))))
        ≡ (if b then neg_ℤ (pos (digits_value 10 cs)) else pos (digits_value 10 (c ∷ cs)))
    at true e h = refl
    at false e h = rw (without_leading_plus_none (c ∷ cs) (digit_no_plus c cs (decimal_digits (c ∷ cs) h)))
