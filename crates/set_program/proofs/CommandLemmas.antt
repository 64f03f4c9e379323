-- A number of lines is the text of one number alone, and is read as it.
use Rattle.std.proofs.Common.{◌≡◌, ℕ, ◌<◌, ◌≤◌, List, [], ◌∷◌, length, get_or, refl, ap, sym, ◌∙◌, arith, w64, to_z, of_z}
use Rattle.std.specs.Prelude.{ℤ, pos, negsuc, nat_abs, true, false, int_le, Some, None}
use Rattle.std.specs.Fmt.{decimal}
use Rattle.std.proofs.lemmas.Bool.Decides.{nat_tests}
use Rattle.std.proofs.lemmas.Int.{to_z-of_z}
use Rattle.set_document.specs.Text.{number}
use Rattle.set_document.proofs.DecimalLemmas.{decimal_of_number, number_of_decimal, number_fits}
use Rattle.set_program.specs.Command.{IsLineCount, AskForSample}

pub count_is_read : (word : List ℕ) (lines : ℕ) → IsLineCount word lines → number word ≡ Some (pos lines)
count_is_read word lines h = ap number h.written ∙ number_of_decimal lines (omega (arith, h.most))

pub read_is_count : (word : List ℕ) (lines : ℕ) → number word ≡ Some (pos lines) → 1 ≤ lines → lines ≤ 1000
    → IsLineCount word lines
read_is_count word lines e some most = record { written = decimal_of_number word lines e; some = some; most = most }

-- what is no number is no number of lines
pub none_is_no_count : (word : List ℕ) → number word ≡ None → (lines : ℕ) → IsLineCount word lines → ⊥
none_is_no_count word e lines h = let clash = sym e ∙ count_is_read word lines h in absurd (cc)

-- the number that is read is the number of lines
pub count_of_read : (word : List ℕ) (z : ℤ) (lines : ℕ) → number word ≡ Some z → IsLineCount word lines
    → (z ≡ pos lines) × (1 ≤ lines) × (lines ≤ 1000)
count_of_read word z lines e h =
    let same : Some z ≡ Some (pos lines) = sym e ∙ count_is_read word lines h in
    (cc, h.some, h.most)

pub read_whole : (word : List ℕ) (z : ℤ) → number word ≡ Some z → to_z w64 (of_z w64 z) ≡ z
read_whole word z e = to_z-of_z w64 z (number_fits word z e)

-- a number that is read, by the tests of its size
pub counted : (word : List ℕ) (z : ℤ) → number word ≡ Some z → int_le (pos 1) z ≡ true → int_le z (pos 1000) ≡ true
    → IsLineCount word (nat_abs z)
counted word (pos n) e l h = read_is_count word n e (grind (arith, nat_tests)) (grind (arith, nat_tests))
counted word (negsuc n) e l h = absurd (cc)

pub not_past : (lines : ℕ) → lines ≤ 1000 → int_le (pos lines) (pos 1000) ≡ false → ⊥
not_past lines h e = grind (arith, nat_tests)

pub not_before : (lines : ℕ) → 1 ≤ lines → int_le (pos 1) (pos lines) ≡ false → ⊥
not_before lines h e = grind (arith, nat_tests)

pub one_count : (m n : ℕ) → m ≤ 1000 → n ≤ 1000 → decimal m ≡ decimal n → m ≡ n
one_count m n h k e =
    let both : Some (pos m) ≡ Some (pos n) =
    sym (number_of_decimal m (omega (arith, h))) ∙ (ap number e ∙ number_of_decimal n (omega (arith, k))) in
    cc

pub one_sample : (words : List (List ℕ)) (m n : ℕ) → AskForSample words m → AskForSample words n → m ≡ n
one_sample words m n a b =
    let both = sym a.written ∙ b.written in
    one_count m n a.most b.most (cc)

-- words of which there are two
pub two_words : (words : List (List ℕ)) (a b : List ℕ) → 2 ≤ length words → length words < 3
    → a ≡ get_or words 0 a → b ≡ get_or words 1 b → words ≡ a ∷ b ∷ []
two_words [] a b l h p q = absurd (omega arith)
two_words (x ∷ []) a b l h p q = absurd (omega arith)
two_words (x ∷ y ∷ []) a b l h p q = rw (p, q) refl
two_words (x ∷ y ∷ z ∷ words) a b l h p q = absurd (omega arith)
