-- What is written for a number is read as that number, and what is written for a range as that span.
use Rattle.std.proofs.Common.{◌≡◌, ℕ, ◌<◌, ◌≤◌, ◌^◌, List, [], ◌∷◌, ◌++◌, length, refl, ◌∙◌, arith, w64}
use Rattle.std.specs.Prelude.{ℤ, pos, negsuc, ◌≤ℤ◌, true, false, not, nat_le, bytes_eq, Some, None, FitsSigned}
use Rattle.std.specs.Fmt.{decimal, signed_decimal}
use Rattle.std.specs.List.{list_all, position_or_len}
use Rattle.std.specs.Str.{all_ascii_digits}
use Rattle.std.proofs.lemmas.Bool.Decides.{nat_tests}
use Rattle.std.proofs.lemmas.Int.{ints}
use Rattle.std.proofs.lemmas.List.{take_at, drop_at}
use Rattle.text_lines.specs.Decimals.{is_decimal}
use Rattle.text_lines.proofs.PieceLemmas.{all_weaken, lower, both_all, prefix_whole}
use Rattle.text_lines.proofs.ReaderLemmas.{AreEnds, ends_of_i64}
use Rattle.text_lines.proofs.DecimalLemmas.{is_plain, written_plain, written_some, plain_bytes, number_parts}
use Rattle.text_lines.proofs.DecimalLemmas as decimals
use Rattle.set_document.specs.Answer.{range_text}
use Rattle.set_document.specs.Numbers.{least, greatest}
use Rattle.set_document.specs.Text.{number, span, kind, is_dot, Span}

-- ---- a number

document_ends : AreEnds w64 least greatest
unfolding least greatest
document_ends = ends_of_i64

pub written_number : (z : ℤ) → FitsSigned w64 z → number (signed_decimal z) ≡ Some z
written_number z f = decimals.written_number least greatest z f (document_ends.hold z f)

pub number_fits : (word : List ℕ) (z : ℤ) → number word ≡ Some z → FitsSigned w64 z
number_fits word z e = document_ends.fit z (number_parts least greatest word z e).1

pub decimal_of_number : (word : List ℕ) (n : ℕ) → number word ≡ Some (pos n) → word ≡ decimal n
decimal_of_number word n e =
    decimals.decimal_of_number least greatest word n (omega (arith, (number_fits word (pos n) e).sfits)) e

-- a number from 0 on that is written is read as that number
pub number_of_decimal : (n : ℕ) → n < 2 ^ 63 → number (decimal n) ≡ Some (pos n)
number_of_decimal n h = written_number (pos n) (record { sfits = omega arith })

pub fits : (z : ℤ) → least ≤ℤ z → z ≤ℤ greatest → FitsSigned w64 z
unfolding least greatest
fits (pos n) l h = record { sfits = omega (arith, ints) }
fits (negsuc n) l h = record { sfits = omega (arith, ints) }

-- ---- a range

pub range_bytes : (m : ℕ) (r : ℤ × ℤ) → m ≤ 45 → FitsSigned w64 r.0 → FitsSigned w64 r.1
    → list_all (nat_le m) (range_text r) ≡ true
range_bytes m r h f g =
    lower m 45 (range_text r) h
    (both_all (nat_le 45) (signed_decimal r.0) (46 ∷ 46 ∷ 61 ∷ signed_decimal r.1)
    (plain_bytes (signed_decimal r.0) (written_plain r.0 f)) (plain_bytes (signed_decimal r.1) (written_plain r.1 g)))

dot_no_digits : (xs rest : List ℕ) → all_ascii_digits (xs ++ 46 ∷ rest) ≡ false
dot_no_digits [] rest = refl
dot_no_digits (x ∷ xs) rest = grind (arith, dot_no_digits xs rest)

dot_no_decimal : (xs rest : List ℕ) → is_decimal (xs ++ 46 ∷ rest) ≡ false
dot_no_decimal [] [] = refl
dot_no_decimal [] (r ∷ rest) = refl
dot_no_decimal (c ∷ []) rest = grind (arith, dot_no_digits (c ∷ []) rest)
dot_no_decimal (c ∷ d ∷ ds) rest = grind (arith, dot_no_digits (c ∷ d ∷ ds) rest)

dot_no_number : (c : ℕ) (xs rest : List ℕ) → number (c ∷ xs ++ 46 ∷ rest) ≡ None
dot_no_number c xs rest = grind (arith, dot_no_decimal xs rest, dot_no_decimal (c ∷ xs) rest)

not_only : (xs rest : List ℕ) → bytes_eq (xs ++ 46 ∷ rest) [] ≡ false
not_only [] rest = refl
not_only (x ∷ xs) rest = refl

-- a piece that begins as a number, and is more than a minus and no number
kind_of_plain : (c : ℕ) (cs : List ℕ) → is_plain c ≡ true → number (c ∷ cs) ≡ None → bytes_eq cs [] ≡ false
    → kind (c ∷ cs) ≡ span (c ∷ cs)
kind_of_plain c cs p n o = grind (arith, nat_tests)

-- a number, `..=` and a number
span_written : (a b : List ℕ) (s e : ℤ) → list_all is_plain a ≡ true → number a ≡ Some s → number b ≡ Some e
    → span (a ++ (46 ∷ 46 ∷ 61 ∷ b)) ≡ Some (Span s e)
span_written a b s e p na nb =
    let dots : position_or_len is_dot (a ++ (46 ∷ 46 ∷ 61 ∷ b)) ≡ length a =
    prefix_whole (λ c. not (is_dot c)) a 46 (46 ∷ 61 ∷ b)
    (all_weaken is_plain (λ c. not (is_dot c)) (λ c k. grind (arith, nat_tests)) a p) refl in
    rw (dots, take_at a (46 ∷ 46 ∷ 61 ∷ b) (length a) refl, drop_at a (46 ∷ 46 ∷ 61 ∷ b) (length a) refl, na, nb) refl

kind_written : (a b : List ℕ) (s e : ℤ) → list_all is_plain a ≡ true → 0 < length a → number a ≡ Some s
    → number b ≡ Some e → kind (a ++ (46 ∷ 46 ∷ 61 ∷ b)) ≡ Some (Span s e)
kind_written [] b s e p l na nb = absurd (omega arith)
kind_written (c ∷ cs) b s e p l na nb =
    kind_of_plain c (cs ++ (46 ∷ 46 ∷ 61 ∷ b)) (grind arith) (dot_no_number c cs (46 ∷ 61 ∷ b))
    (not_only cs (46 ∷ 61 ∷ b)) ∙ span_written (c ∷ cs) b s e p na nb

pub kind_of_range : (s e : ℤ) → FitsSigned w64 s → FitsSigned w64 e → kind (range_text (s, e)) ≡ Some (Span s e)
kind_of_range s e f g =
    kind_written (signed_decimal s) (signed_decimal e) s e (written_plain s f) (written_some s f) (written_number s f)
    (written_number e g)
