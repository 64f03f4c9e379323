-- The sample text has no fault.
use Rattle.std.proofs.Common.{◌≡◌, ℕ, zero, suc, ◌+◌, ◌-◌, ◌*◌, ◌/◌, ◌%◌, ◌<◌, ◌≤◌, List, [], ◌∷◌, ◌++◌, refl, sym, ap, ◌∙◌, arith, append_assoc}
use Rattle.std.specs.Prelude.{ℤ, pos, true, false, not, ◌&&◌, ◌==◌, nat_le, bytes_eq, codes, Some, None}
use Rattle.std.specs.List.{slice_split, list_all, list_any}
use Rattle.std.proofs.lemmas.Bool.{and_parts, and_from, or_right, le-leb, eqb-false, not-true}
use Rattle.std.proofs.lemmas.Int.{ints}
use Rattle.std.proofs.lemmas.List.{append-nil}
use Rattle.std.proofs.lemmas.List.Folds.{list_any-append}
use Rattle.std.proofs.lemmas.Slice.Eq.{bytes_eq-Decides}
use Rattle.number_line.proofs.PlacedLemmas.{by_cases}
use Rattle.set_document.specs.Answer.{range_text}
use Rattle.set_document.specs.Faults.{Depth, judge_word, fault_in_words, fault_in_form, fault_from, names_after, first_fault, IsWellFormed}
use Rattle.set_document.specs.Sample.{sample_name, sample_range, sample_words, sample_line, sample}
use Rattle.text_lines.specs.Lines.{lines, words}
use Rattle.set_document.specs.Text.{kind, form, is_letter, is_letters, is_name, Name, Named}
use Rattle.set_document.proofs.DecimalLemmas.{range_bytes}
use Rattle.text_lines.proofs.PieceLemmas.{both_all, lines_piece, split_word, split_last}
use Rattle.set_document.proofs.PrintedLemmas.{IsShown, form_before_feed, name_bytes, body_of_name, fault_step, judged}
use Rattle.set_document.proofs.ReadBackLemmas.{line_step}

-- ---- names

letter_at : (c : ℕ) → 97 ≤ c → c ≤ 122 → is_letter c ≡ true
letter_at c l h = and_from (nat_le 97 c) (nat_le c 122) (le-leb 97 c l) (le-leb c 122 h)

three_letters : (a b c : ℕ) → is_letter a ≡ true → is_letter b ≡ true → is_letter c ≡ true
    → is_name (a ∷ b ∷ c ∷ []) ≡ true
three_letters a b c p q r = grind arith

name_is : (k : ℕ) → k < 1000 → is_name (sample_name k) ≡ true
name_is k h = three_letters (97 + k / 676) (97 + (k / 26) % 26) (97 + k % 26)
    (letter_at (97 + k / 676) (omega arith) (omega arith))
    (letter_at (97 + (k / 26) % 26) (omega arith) (omega arith))
    (letter_at (97 + k % 26) (omega arith) (omega arith))

kind_of_name : (name : List ℕ) → is_name name ≡ true → kind name ≡ Some (Name name)
kind_of_name name h =
    let a = and_parts (is_letters name && not (bytes_eq name (codes "empty"))) (not (bytes_eq name (codes "full"))) h in
    let b = and_parts (is_letters name) (not (bytes_eq name (codes "empty"))) a.0 in
    let e : bytes_eq name (codes "empty") ≡ false = not-true (bytes_eq name (codes "empty")) b.1 in
    let f : bytes_eq name (codes "full") ≡ false = not-true (bytes_eq name (codes "full")) a.1 in
    rw (e, f, b.0) refl

-- ---- words

name_word : (name : List ℕ) → is_name name ≡ true → list_all (nat_le 33) name ≡ true
name_word name h = name_bytes 33 name (omega arith) h

module _ (r : ℤ × ℤ) (name : List ℕ) (shown : IsShown r) (named : is_name name ≡ true) where
  range_word : list_all (nat_le 33) (range_text r) ≡ true
  range_word = range_bytes 33 r (omega arith) shown.0 shown.1

  -- a range, a name and an operator of one byte
  pub operator_words : (op : ℕ) → (op == 32) ≡ false
      → slice_split (λ b. b == 32) (range_text r ++ (32 ∷ (name ++ (32 ∷ op ∷ [])))) ≡ range_text r ∷ name ∷ (op ∷ []) ∷ []
  operator_words op e =
      split_word (range_text r) (name ++ (32 ∷ op ∷ [])) range_word
      ∙ ap (λ ps. range_text r ∷ ps)
      (split_word name (op ∷ []) (name_word name named) ∙ ap (λ ps. name ∷ ps) (rw e refl))

  pub not_words : slice_split (λ b. b == 32) (name ++ (32 ∷ 33 ∷ 32 ∷ (range_text r ++ (32 ∷ 38 ∷ [])))) ≡ name ∷ (33 ∷ []) ∷ range_text r ∷ (38 ∷ []) ∷ []
  not_words =
      split_word name (33 ∷ 32 ∷ (range_text r ++ (32 ∷ 38 ∷ []))) (name_word name named)
      ∙ ap (λ ps. name ∷ (33 ∷ []) ∷ ps) (split_word (range_text r) (38 ∷ []) range_word)

  operator_bytes : (op : ℕ) → nat_le 32 op ≡ true
      → list_all (nat_le 32) (range_text r ++ (32 ∷ (name ++ (32 ∷ op ∷ [])))) ≡ true
  operator_bytes op e =
      both_all (nat_le 32) (range_text r) (32 ∷ (name ++ (32 ∷ op ∷ [])))
      (range_bytes 32 r (omega arith) shown.0 shown.1)
      (both_all (nat_le 32) name (32 ∷ op ∷ []) (name_bytes 32 name (omega arith) named) (rw e refl))

  not_bytes : list_all (nat_le 32) (name ++ (32 ∷ 33 ∷ 32 ∷ (range_text r ++ (32 ∷ 38 ∷ [])))) ≡ true
  not_bytes =
      both_all (nat_le 32) name (32 ∷ 33 ∷ 32 ∷ (range_text r ++ (32 ∷ 38 ∷ [])))
      (name_bytes 32 name (omega arith) named)
      (both_all (nat_le 32) (range_text r) (32 ∷ 38 ∷ []) (range_bytes 32 r (omega arith) shown.0 shown.1) refl)

  module _ (known : List (List ℕ)) (line : ℕ) (has : list_any (λ n. bytes_eq n name) known ≡ true) where
    judged_name : (word depth : ℕ) → judge_word known line word depth (kind name) ≡ Depth (depth + 1)
    judged_name word depth = rw (kind_of_name name named, has) refl

    operator_faultless : (op : ℕ) → (op == 32) ≡ false → judge_word known line (1 + 1 + 1) 2 (kind (op ∷ [])) ≡ Depth 1
        → fault_in_words known line 1 0 (words (Some (range_text r ++ (32 ∷ (name ++ (32 ∷ op ∷ [])))))) ≡ None
    operator_faultless op e j =
        ap (fault_in_words known line 1 0) (operator_words op e)
        ∙ (fault_step known line 1 0 1 (range_text r) (name ∷ (op ∷ []) ∷ []) (judged known line 1 0 r shown)
        ∙ (fault_step known line (1 + 1) 1 2 name ((op ∷ []) ∷ []) (judged_name (1 + 1) 1)
        ∙ fault_step known line (1 + 1 + 1) 2 1 (op ∷ []) [] j))

    not_faultless : fault_in_words known line 1 0 (words (Some (name ++ (32 ∷ 33 ∷ 32 ∷ (range_text r ++ (32 ∷ 38 ∷ [])))))) ≡ None
    not_faultless =
        ap (fault_in_words known line 1 0) not_words
        ∙ (fault_step known line 1 0 1 name ((33 ∷ []) ∷ range_text r ∷ (38 ∷ []) ∷ []) (judged_name 1 0)
        ∙ (fault_step known line (1 + 1) 1 1 (33 ∷ []) (range_text r ∷ (38 ∷ []) ∷ []) refl
        ∙ (fault_step known line (1 + 1 + 1) 1 2 (range_text r) ((38 ∷ []) ∷ [])
        (judged known line (1 + 1 + 1) 1 r shown)
        ∙ fault_step known line (1 + 1 + 1 + 1) 2 1 (38 ∷ []) [] refl)))

alone_faultless : (known : List (List ℕ)) (line : ℕ) (r : ℤ × ℤ) → IsShown r
    → fault_in_words known line 1 0 (words (Some (range_text r))) ≡ None
alone_faultless known line r h =
    ap (fault_in_words known line 1 0) (split_last (range_text r) (range_bytes 33 r (omega arith) h.0 h.1))
    ∙ fault_step known line 1 0 1 (range_text r) [] (judged known line 1 0 r h)

-- ---- lines

-- what holds of the words of each of the four kinds of lines
words_by : (P : List ℕ → Type 0) (k : ℕ) → P (sample_range k)
    → (0 < k → P (sample_range k ++ (32 ∷ (sample_name (k - 1) ++ (32 ∷ 124 ∷ [])))))
    → (0 < k → P (sample_range k ++ (32 ∷ (sample_name (k - 1) ++ (32 ∷ 94 ∷ [])))))
    → (0 < k → P (sample_name (k - 1) ++ (32 ∷ 33 ∷ 32 ∷ (sample_range k ++ (32 ∷ 38 ∷ []))))) → P (sample_words k)
words_by P k zeroth first second third = by_cases (k % 4 == 0) (λ e. rw e zeroth) (λ e. more e)
  where
    more : (k % 4 == 0) ≡ false → P (sample_words k)
    more e =
        let some : 0 < k = later e in
        by_cases (k % 4 == 1) (λ f. rw (e, f) (first some))
        (λ f. by_cases (k % 4 == 2) (λ g. rw (e, f, g) (second some)) (λ g. rw (e, f, g) (third some)))
      where
        later : (k % 4 == 0) ≡ false → 0 < k
        later e = omega (arith, eqb-false (k % 4) 0 e)

shown : (k : ℕ) → k < 1000 → IsShown (pos (10 * k), pos (10 * k + 25))
shown k h = (record { sfits = omega arith }, record { sfits = omega arith }, omega (arith, ints))

words_bytes : (k : ℕ) → k < 1000 → list_all (nat_le 32) (sample_words k) ≡ true
words_bytes k h =
    let r : ℤ × ℤ = (pos (10 * k), pos (10 * k + 25)) in
    words_by (λ w. list_all (nat_le 32) w ≡ true) k
    (range_bytes 32 r (omega arith) (shown k h).0 (shown k h).1)
    (λ s. operator_bytes r (sample_name (k - 1)) (shown k h) (name_is (k - 1) (omega arith)) 124 refl)
    (λ s. operator_bytes r (sample_name (k - 1)) (shown k h) (name_is (k - 1) (omega arith)) 94 refl)
    (λ s. not_bytes r (sample_name (k - 1)) (shown k h) (name_is (k - 1) (omega arith)))

words_faultless : (known : List (List ℕ)) (line k : ℕ) → k < 1000
    → (0 < k → list_any (λ n. bytes_eq n (sample_name (k - 1))) known ≡ true)
    → fault_in_words known line 1 0 (words (Some (sample_words k))) ≡ None
words_faultless known line k h has =
    let r : ℤ × ℤ = (pos (10 * k), pos (10 * k + 25)) in
    words_by (λ w. fault_in_words known line 1 0 (words (Some w)) ≡ None) k
    (alone_faultless known line r (shown k h))
    (λ s. operator_faultless r (sample_name (k - 1)) (shown k h) (name_is (k - 1) (omega arith)) known line
    (has s) 124 refl refl)
    (λ s. operator_faultless r (sample_name (k - 1)) (shown k h) (name_is (k - 1) (omega arith)) known line
    (has s) 94 refl refl)
    (λ s. not_faultless r (sample_name (k - 1)) (shown k h) (name_is (k - 1) (omega arith)) known line (has s))

abbrev body : ℕ → List ℕ
body k = sample_name k ++ (58 ∷ 32 ∷ sample_words k)

line_is : (k : ℕ) → sample_line k ≡ body k ++ 10 ∷ []
line_is k = sym (append_assoc (sample_name k) (58 ∷ 32 ∷ sample_words k) (10 ∷ []))

body_bytes : (k : ℕ) → k < 1000 → list_all (nat_le 32) (body k) ≡ true
body_bytes k h =
    both_all (nat_le 32) (sample_name k) (58 ∷ 32 ∷ sample_words k)
    (name_bytes 32 (sample_name k) (omega arith) (name_is k h)) (words_bytes k h)

line_form : (k : ℕ) → k < 1000 → form (sample_line k) ≡ Named (sample_name k) (Some (sample_words k))
line_form k h =
    ap form (line_is k) ∙ (form_before_feed (body k) ∙ body_of_name (sample_name k) (sample_words k) (name_is k h))

-- the lines of the sample, and their names
abbrev pieces : ℕ → List (List ℕ)
pieces zero = []
pieces (suc n) = pieces n ++ sample_line n ∷ []

abbrev names_to : ℕ → List (List ℕ)
names_to zero = []
names_to (suc n) = names_to n ++ sample_name n ∷ []

lines_are : (n : ℕ) (rest : List ℕ) → n ≤ 1000 → lines (sample n ++ rest) ≡ pieces n ++ lines rest
unfolding sample
lines_are zero rest h = refl
lines_are (suc n) rest h =
    let one : lines (sample_line n ++ rest) ≡ sample_line n ∷ lines rest =
    ap (λ l. lines (l ++ rest)) (line_is n) ∙
    (ap lines (append_assoc (body n) (10 ∷ []) rest) ∙
    (lines_piece (body n) rest (body_bytes n (omega arith)) ∙ ap (λ l. l ∷ lines rest) (sym (line_is n)))) in
    ap lines (append_assoc (sample n) (sample_line n) rest) ∙
    (lines_are n (sample_line n ++ rest) (omega arith) ∙
    (ap (λ ls. pieces n ++ ls) one ∙ sym (append_assoc (pieces n) (sample_line n ∷ []) (lines rest))))

last_known : (n : ℕ) → 0 < n → list_any (λ m. bytes_eq m (sample_name (n - 1))) (names_to n) ≡ true
last_known zero h = absurd (omega arith)
last_known (suc n) h =
    let e : suc n - 1 ≡ n = omega arith in
    let same : bytes_eq (sample_name n) (sample_name n) ≡ true =
    (bytes_eq-Decides (sample_name n) (sample_name n)).1 refl in
    rw e (list_any-append (λ m. bytes_eq m (sample_name n)) (names_to n) (sample_name n ∷ []) ∙ or_right
    (list_any (λ m. bytes_eq m (sample_name n)) (names_to n))
    (list_any (λ m. bytes_eq m (sample_name n)) (sample_name n ∷ [])) (rw same refl))

faults_to : (n : ℕ) (rest : List (List ℕ)) → n ≤ 1000
    → fault_from [] 1 (pieces n ++ rest) ≡ fault_from (names_to n) (1 + n) rest
faults_to zero rest h = refl
faults_to (suc n) rest h =
    let f = line_form n (omega arith) in
    let none : fault_in_form (names_to n) (1 + n) (form (sample_line n)) ≡ None =
    ap (fault_in_form (names_to n) (1 + n)) f ∙ words_faultless (names_to n) (1 + n) n (omega arith) (last_known n) in
    let next : 1 + n + 1 ≡ 1 + suc n = omega arith in
    ap (fault_from [] 1) (append_assoc (pieces n) (sample_line n ∷ []) rest)
    ∙ (faults_to n (sample_line n ∷ rest) (omega arith)
    ∙ (line_step (names_to n) (1 + n) (sample_line n) rest none
    ∙ (ap (λ g. fault_from (names_after (names_to n) g) (1 + n + 1) rest) f ∙ ap
    (λ m. fault_from (names_to (suc n)) m rest) next)))

pub sample_faultless : (n : ℕ) → n ≤ 1000 → IsWellFormed (sample n)
unfolding first_fault
sample_faultless n h =
    let e : lines (sample n) ≡ pieces n = simp append-nil at (lines_are n [] h) in
    let f : fault_from [] 1 (pieces n) ≡ None = simp append-nil at (faults_to n [] h) in
    ap (fault_from [] 1) e ∙ f
