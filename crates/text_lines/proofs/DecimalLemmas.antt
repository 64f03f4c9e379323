-- What is written for a number is read as that number, and a number that is not negative has this one text.
use Rattle.std.proofs.Common.{◌≡◌, ◌⊎◌, inl, inr, ℕ, zero, suc, ◌<◌, ◌^◌, List, [], ◌∷◌, length, get_or, refl, sym, ap, ◌∙◌, arith, w64}
use Rattle.std.specs.Prelude.{ℤ, pos, negsuc, neg_ℤ, Bool, true, false, ◌||◌, ◌==◌, nat_le, bytes_eq, codes, Some, FitsSigned}
use Rattle.std.specs.Char.{is_ascii_digit}
use Rattle.std.specs.Fmt.{decimal, signed_decimal}
use Rattle.std.specs.List.{list_all}
use Rattle.std.specs.Str.{all_ascii_digits}
use Rattle.std.specs.Str.Parse.{digits_value, signed_digits_value}
use Rattle.std.proofs.lemmas.Bool.Decides.{nat_tests}
use Rattle.std.proofs.lemmas.Fmt.{digits_decimal, digits_value-decimal, decimal_nonempty, first_decimal, decimal_digit, decimal-digits_value}
use Rattle.text_lines.specs.Decimals.{is_decimal, has_number_form, is_between, number_between}
use Rattle.text_lines.proofs.PieceLemmas.{all_weaken}
use Rattle.text_lines.proofs.ReaderLemmas.{own, decimal_digits, form_value}

digits_are_decimal : (ds : List ℕ) → all_ascii_digits ds ≡ true → 0 < length ds → (48 < get_or ds 0 0) ⊎ (length ds ≡ 1)
    → is_decimal ds ≡ true
digits_are_decimal [] a l h = absurd (omega arith)
digits_are_decimal (c ∷ []) a l h = grind (arith, nat_tests)
digits_are_decimal (c ∷ d ∷ ds) a l h = grind (arith, nat_tests)

first_or_alone : (n : ℕ) → n < 2 ^ 64 → (48 < get_or (decimal n) 0 0) ⊎ (length (decimal n) ≡ 1)
first_or_alone zero h = inr (ap length (decimal_digit 0 (omega arith)))
first_or_alone (suc n) h = inl (first_decimal (suc n) (omega arith) h)

written_decimal : (n : ℕ) → n < 2 ^ 64 → is_decimal (decimal n) ≡ true
written_decimal n h =
    digits_are_decimal (decimal n) (digits_decimal own n h) (decimal_nonempty n h) (first_or_alone n h)

reads_plain : (lo hi : ℤ) (ds : List ℕ) (n : ℕ) → is_decimal ds ≡ true → digits_value 10 ds ≡ n → is_between lo hi (pos n) ≡ true
    → number_between lo hi ds ≡ Some (pos n)
reads_plain lo hi [] n d v i = absurd (cc)
reads_plain lo hi (c ∷ []) n d v i = grind (arith, nat_tests, form_value c [])
reads_plain lo hi (c ∷ e ∷ cs) n d v i = grind (arith, nat_tests, form_value c (e ∷ cs))

not_zero : (ds : List ℕ) → 48 < get_or ds 0 0 → bytes_eq ds (codes "0") ≡ false
not_zero [] h = refl
not_zero (c ∷ cs) h = grind (arith, nat_tests)

reads_minus : (lo hi : ℤ) (ds : List ℕ) (n : ℕ) → is_decimal ds ≡ true → bytes_eq ds (codes "0") ≡ false
    → digits_value 10 ds ≡ suc n → is_between lo hi (negsuc n) ≡ true → number_between lo hi (45 ∷ ds) ≡ Some (negsuc n)
reads_minus lo hi ds n d z v i = grind (arith, form_value 45 ds)

-- a number that is written is read as that number, wherever it lies between the ends
pub written_number : (lo hi z : ℤ) → FitsSigned w64 z → is_between lo hi z ≡ true → number_between lo hi (signed_decimal z) ≡ Some z
written_number lo hi (pos n) f i =
    let h : n < 2 ^ 64 = omega (arith, f.sfits) in
    reads_plain lo hi (decimal n) n (written_decimal n h) (digits_value-decimal own n h) i
written_number lo hi (negsuc n) f i =
    let h : suc n < 2 ^ 64 = omega (arith, f.sfits) in
    reads_minus lo hi (decimal (suc n)) n (written_decimal (suc n) h)
    (not_zero (decimal (suc n)) (first_decimal (suc n) (omega arith) h)) (digits_value-decimal own (suc n) h) i

-- ---- its bytes: a minus or digits

abbrev pub is_plain : ℕ → Bool
is_plain c = (c == 45) || is_ascii_digit c

digits_plain : (ds : List ℕ) → all_ascii_digits ds ≡ true → list_all is_plain ds ≡ true
digits_plain [] a = refl
digits_plain (c ∷ cs) a = grind (arith, nat_tests, digits_plain cs)

pub written_plain : (z : ℤ) → FitsSigned w64 z → list_all is_plain (signed_decimal z) ≡ true
written_plain (pos n) f = digits_plain (decimal n) (digits_decimal own n (omega (arith, f.sfits)))
written_plain (negsuc n) f = digits_plain (decimal (suc n)) (digits_decimal own (suc n) (omega (arith, f.sfits)))

pub written_some : (z : ℤ) → FitsSigned w64 z → 0 < length (signed_decimal z)
written_some (pos n) f = decimal_nonempty n (omega (arith, f.sfits))
written_some (negsuc n) f = omega arith

pub plain_bytes : (bytes : List ℕ) → list_all is_plain bytes ≡ true → list_all (nat_le 45) bytes ≡ true
plain_bytes bytes p = all_weaken is_plain (nat_le 45) (λ c k. grind (arith, nat_tests)) bytes p

-- ---- and back: a piece that is read as a number from 0 on is what is written for it

pub number_parts : (lo hi : ℤ) (word : List ℕ) (z : ℤ) → number_between lo hi word ≡ Some z
    → (has_number_form word ≡ true) × (is_between lo hi z ≡ true) × (signed_digits_value 10 word ≡ z)
number_parts lo hi word z e = grind arith

first_alone : (ds : List ℕ) → is_decimal ds ≡ true → get_or ds 0 0 ≡ 48 → length ds ≡ 1
first_alone [] d e = absurd (cc)
first_alone (c ∷ []) d e = refl
first_alone (c ∷ b ∷ ds) d e = absurd (grind (arith, nat_tests))

decimal_some : (ds : List ℕ) → is_decimal ds ≡ true → 0 < length ds
decimal_some [] d = absurd (cc)
decimal_some (c ∷ ds) d = omega arith

one_form : (ds : List ℕ) → is_decimal ds ≡ true → digits_value 10 ds < 2 ^ 64 → decimal (digits_value 10 ds) ≡ ds
one_form ds d l = decimal-digits_value own ds (decimal_digits ds d) (decimal_some ds d) (first_alone ds d) l

-- `-` and digits are no number from 0 on
minus_below : (ds : List ℕ) (n : ℕ) → is_decimal ds ≡ true → bytes_eq ds (codes "0") ≡ false
    → neg_ℤ (pos (digits_value 10 ds)) ≡ pos n → ⊥
minus_below ds n d z e = at (digits_value 10 ds) refl e
  where
    at : (v : ℕ) → digits_value 10 ds ≡ v → neg_ℤ (pos v) ≡ pos n → ⊥
    at zero h e =
        let zero_text : ds ≡ 48 ∷ [] = sym (one_form ds d (omega arith)) ∙ (ap decimal h ∙ decimal_digit 0 (omega arith)) in
        let clash : true ≡ false = rw zero_text at z in
        absurd (cc)
    at (suc v) h e = absurd (cc)

pub decimal_of_number : (lo hi : ℤ) (word : List ℕ) (n : ℕ) → n < 2 ^ 64 → number_between lo hi word ≡ Some (pos n) → word ≡ decimal n
decimal_of_number lo hi [] n l e = absurd (cc)
decimal_of_number lo hi (c ∷ cs) n l e = at (c == 45) refl (number_parts lo hi (c ∷ cs) (pos n) e)
  where
    at : (b : Bool) → (c == 45) ≡ b
        → (has_number_form (c ∷ cs) ≡ true) × (is_between lo hi (pos n) ≡ true) × (signed_digits_value 10 (c ∷ cs) ≡ pos n)
        → c ∷ cs ≡ decimal n
    at true h parts =
        let value = form_value c cs parts.0 in
        absurd (minus_below cs n (grind arith) (grind arith) (grind arith))
    at false h parts =
        let value = form_value c cs parts.0 in
        let d : is_decimal (c ∷ cs) ≡ true = grind arith in
        let v : digits_value 10 (c ∷ cs) ≡ n = grind arith in
        sym (one_form (c ∷ cs) d (omega (arith, v, l))) ∙ ap decimal v
