-- What the lines of an answer are, read as lines of a text.
use Rattle.std.proofs.Common.{◌≡◌, ℕ, zero, suc, ◌+◌, ◌≤◌, List, [], ◌∷◌, ◌++◌, length, take, drop, refl, sym, ap, ◌∙◌, arith, append_assoc, w64}
use Rattle.std.specs.Prelude.{ℤ, ◌≤ℤ◌, Bool, true, false, ◌||◌, ◌==◌, nat_le, int_lt, codes, flat_map, Some, None, FitsSigned}
use Rattle.std.specs.List.{slice_split, list_all, prefix_len, AllByRecursion}
use Rattle.std.proofs.Math.Bool.{or_assoc, or-false}
use Rattle.std.proofs.lemmas.Int.{ints}
use Rattle.std.proofs.lemmas.List.{append-nil, take_at, drop_at}
use Rattle.number_line.specs.Ranges.{holds, lies_in}
use Rattle.set_document.specs.Answer.{range_text, further_text, list_text, line_text, name_text, row_text}
use Rattle.set_document.specs.Faults.{Depth, judge_word, fault_in_words}
use Rattle.text_lines.specs.Lines.{words}
use Rattle.set_document.specs.Text.{kind, form, form_of_body, form_of_named, is_letter, is_name, Or, Comment, Named}
use Rattle.set_document.specs.Truth.{after_word, after_words}
use Rattle.truth_blocks.specs.Stack.{last_value}
use Rattle.std.proofs.lemmas.Bool.Decides.{nat_tests}
use Rattle.text_lines.proofs.PieceLemmas.{all_weaken, both_all, split_word, split_last, prefix_whole, feed_ends, before_feed}
use Rattle.set_document.proofs.DecimalLemmas.{range_bytes, kind_of_range}

-- both ends are numbers of 64 bits, in order
abbrev pub IsShown : ℤ × ℤ → Type 0
IsShown r = FitsSigned w64 r.0 × FitsSigned w64 r.1 × (r.0 ≤ℤ r.1)

-- a line's form is that of what stands before its line feed
pub form_before_feed : (body : List ℕ) → form (body ++ 10 ∷ []) ≡ form_of_body body
form_before_feed body = rw (feed_ends body, before_feed body) refl

-- ---- bytes

further_bytes : (rs : List (ℤ × ℤ)) → AllByRecursion IsShown rs → list_all (nat_le 32) (further_text rs) ≡ true
further_bytes [] h = refl
further_bytes (r ∷ rs) h =
    both_all (nat_le 32) (range_text r) (32 ∷ 124 ∷ further_text rs) (range_bytes 32 r (omega arith) h.0.0 h.0.1)
    (further_bytes rs h.1)

list_bytes : (runs : List (ℤ × ℤ)) → AllByRecursion IsShown runs → list_all (nat_le 32) (list_text runs) ≡ true
list_bytes [] h = refl
list_bytes (r ∷ rs) h =
    both_all (nat_le 32) (range_text r) (further_text rs) (range_bytes 32 r (omega arith) h.0.0 h.0.1)
    (further_bytes rs h.1)

pub name_letters : (name : List ℕ) → is_name name ≡ true → list_all is_letter name ≡ true
name_letters name h = grind arith

pub name_bytes : (m : ℕ) (name : List ℕ) → m ≤ 97 → is_name name ≡ true → list_all (nat_le m) name ≡ true
name_bytes m name l h = all_weaken is_letter (nat_le m) (λ b e. grind (arith, nat_tests)) name (name_letters name h)

-- ---- a list line

-- what stands before its line feed
abbrev pub line_body : List ℕ × List (ℤ × ℤ) → List ℕ
line_body l = l.0 ++ (58 ∷ 32 ∷ list_text l.1)

abbrev pub IsListed : List ℕ × List (ℤ × ℤ) → Type 0
IsListed l = (is_name l.0 ≡ true) × AllByRecursion IsShown l.1

pub line_is : (l : List ℕ × List (ℤ × ℤ)) → line_text l ≡ line_body l ++ 10 ∷ []
line_is l = sym (append_assoc l.0 (58 ∷ 32 ∷ list_text l.1) (10 ∷ []))

pub line_bytes : (l : List ℕ × List (ℤ × ℤ)) → IsListed l → list_all (nat_le 32) (line_body l) ≡ true
line_bytes l h =
    both_all (nat_le 32) l.0 (58 ∷ 32 ∷ list_text l.1) (name_bytes 32 l.0 (omega arith) h.0) (list_bytes l.1 h.1)

pub form_of_name : (name rest : List ℕ) → is_name name ≡ true
    → form_of_named (name ++ (58 ∷ 32 ∷ rest)) ≡ Named name (Some rest)
form_of_name name rest h =
    let n : prefix_len is_letter (name ++ (58 ∷ 32 ∷ rest)) ≡ length name =
    prefix_whole is_letter name 58 (32 ∷ rest) (name_letters name h) refl in
    let t : take (length name) (name ++ (58 ∷ 32 ∷ rest)) ≡ name = take_at name (58 ∷ 32 ∷ rest) (length name) refl in
    let d : drop (length name) (name ++ (58 ∷ 32 ∷ rest)) ≡ 58 ∷ 32 ∷ rest =
    drop_at name (58 ∷ 32 ∷ rest) (length name) refl in
    rw (n, t, d, h) refl

pub body_of_name : (name rest : List ℕ) → is_name name ≡ true
    → form_of_body (name ++ (58 ∷ 32 ∷ rest)) ≡ Named name (Some rest)
body_of_name [] rest h = absurd (cc)
body_of_name (c ∷ cs) rest h =
    let e : (c == 35) ≡ false = grind (arith, nat_tests, name_letters (c ∷ cs)) in
    rw e (form_of_name (c ∷ cs) rest h)

pub line_form : (l : List ℕ × List (ℤ × ℤ)) → IsListed l → form (line_text l) ≡ Named l.0 (Some (list_text l.1))
line_form l h = ap form (line_is l) ∙ (form_before_feed (line_body l) ∙ body_of_name l.0 (list_text l.1) h.0)

-- ---- its words

abbrev pub further_words : List (ℤ × ℤ) → List (List ℕ)
further_words [] = []
further_words (r ∷ rs) = range_text r ∷ (124 ∷ []) ∷ further_words rs

abbrev pub list_words : List (ℤ × ℤ) → List (List ℕ)
list_words [] = codes "empty" ∷ []
list_words (r ∷ rs) = range_text r ∷ further_words rs

split_further : (word : List ℕ) (rs : List (ℤ × ℤ)) → list_all (nat_le 33) word ≡ true → AllByRecursion IsShown rs
    → slice_split (λ b. b == 32) (word ++ further_text rs) ≡ word ∷ further_words rs
split_further word [] w h = rw (append-nil word) (split_last word w)
split_further word (r ∷ rs) w h =
    let b : list_all (nat_le 33) (range_text r) ≡ true = range_bytes 33 r (omega arith) h.0.0 h.0.1 in
    let one = split_word word (range_text r ++ (32 ∷ 124 ∷ further_text rs)) w in
    let two = split_word (range_text r) (124 ∷ further_text rs) b in
    let three = split_further (124 ∷ []) rs refl h.1 in
    one ∙ ap (λ ps. word ∷ ps) (two ∙ ap (λ ps. range_text r ∷ ps) three)

pub list_split : (runs : List (ℤ × ℤ)) → AllByRecursion IsShown runs → words (Some (list_text runs)) ≡ list_words runs
list_split [] h = refl
list_split (r ∷ rs) h = split_further (range_text r) rs (range_bytes 33 r (omega arith) h.0.0 h.0.1) h.1

-- ---- no fault in them

pub not_less : (a b : ℤ) → a ≤ℤ b → int_lt b a ≡ false
not_less a b h = grind (arith, ints)

pub fault_step : (known : List (List ℕ)) (line word depth d : ℕ) (piece : List ℕ) (pieces : List (List ℕ))
    → judge_word known line word depth (kind piece) ≡ Depth d
    → fault_in_words known line word depth (piece ∷ pieces) ≡ fault_in_words known line (word + 1) d pieces
fault_step known line word depth d piece pieces e = rw (e, fault_in_words) refl

pub judged : (known : List (List ℕ)) (line word depth : ℕ) (r : ℤ × ℤ) → IsShown r
    → judge_word known line word depth (kind (range_text r)) ≡ Depth (depth + 1)
judged known line word depth r h = rw (kind_of_range r.0 r.1 h.0 h.1, not_less r.0 r.1 h.2) refl

further_faultless : (known : List (List ℕ)) (line word : ℕ) (rs : List (ℤ × ℤ)) → AllByRecursion IsShown rs
    → fault_in_words known line word 1 (further_words rs) ≡ None
further_faultless known line word [] h = refl
further_faultless known line word (r ∷ rs) h =
    fault_step known line word 1 2 (range_text r) ((124 ∷ []) ∷ further_words rs) (judged known line word 1 r h.0)
    ∙ further_faultless known line (word + 1 + 1) rs h.1

pub list_faultless : (known : List (List ℕ)) (line : ℕ) (runs : List (ℤ × ℤ)) → AllByRecursion IsShown runs
    → fault_in_words known line 1 0 (list_words runs) ≡ None
list_faultless known line [] h = refl
list_faultless known line (r ∷ rs) h =
    fault_step known line 1 0 1 (range_text r) (further_words rs) (judged known line 1 0 r h.0)
    ∙ further_faultless known line (1 + 1) rs h.1

-- ---- and their truth

after_range : (earlier : List (List ℕ × Bool)) (x : ℤ) (values : List Bool) (r : ℤ × ℤ) → IsShown r
    → after_word earlier x values (kind (range_text r)) ≡ lies_in r x ∷ values
after_range earlier x values r h = ap (after_word earlier x values) (kind_of_range r.0 r.1 h.0 h.1)

further_truth : (earlier : List (List ℕ × Bool)) (x : ℤ) (a : Bool) (rs : List (ℤ × ℤ)) → AllByRecursion IsShown rs
    → last_value (after_words earlier x (a ∷ []) (further_words rs)) ≡ (a || holds rs x)
further_truth earlier x a [] h = sym (or-false a)
further_truth earlier x a (r ∷ rs) h =
    ap (λ vs. last_value (after_words earlier x (after_word earlier x vs (Some Or)) (further_words rs)))
    (after_range earlier x (a ∷ []) r h.0)
    ∙ (further_truth earlier x (a || lies_in r x) rs h.1 ∙ or_assoc a (lies_in r x) (holds rs x))

pub list_truth : (earlier : List (List ℕ × Bool)) (x : ℤ) (runs : List (ℤ × ℤ)) → AllByRecursion IsShown runs
    → last_value (after_words earlier x [] (list_words runs)) ≡ holds runs x
list_truth earlier x [] h = refl
list_truth earlier x (r ∷ rs) h =
    ap (λ vs. last_value (after_words earlier x vs (further_words rs))) (after_range earlier x [] r h.0)
    ∙ further_truth earlier x (lies_in r x) rs h.1

-- ---- a row

abbrev pub row_body : List (List ℕ) → (ℤ × ℤ) × List ℕ → List ℕ
row_body names row = 35 ∷ 32 ∷ (range_text row.0 ++ flat_map (name_text names) row.1)

pub row_is : (names : List (List ℕ)) (row : (ℤ × ℤ) × List ℕ) → row_text names row ≡ row_body names row ++ 10 ∷ []
row_is names row =
    ap (λ t. 35 ∷ 32 ∷ t) (sym (append_assoc (range_text row.0) (flat_map (name_text names) row.1) (10 ∷ [])))

pub row_form : (names : List (List ℕ)) (row : (ℤ × ℤ) × List ℕ) → form (row_text names row) ≡ Comment
row_form names row = ap form (row_is names row) ∙ form_before_feed (row_body names row)

placed_bytes : (names : List (List ℕ)) (i : ℕ) → AllByRecursion (λ n. is_name n ≡ true) names
    → list_all (nat_le 32) (name_text names i) ≡ true
placed_bytes [] i h = refl
placed_bytes (n ∷ names) zero h = name_bytes 32 n (omega arith) h.0
placed_bytes (n ∷ names) (suc i) h = placed_bytes names i h.1

names_bytes : (names : List (List ℕ)) (places : List ℕ) → AllByRecursion (λ n. is_name n ≡ true) names
    → list_all (nat_le 32) (flat_map (name_text names) places) ≡ true
names_bytes names [] h = refl
names_bytes names (i ∷ places) h =
    both_all (nat_le 32) (name_text names i) (flat_map (name_text names) places) (placed_bytes names i h)
    (names_bytes names places h)

pub row_bytes : (names : List (List ℕ)) (row : (ℤ × ℤ) × List ℕ) → AllByRecursion (λ n. is_name n ≡ true) names
    → FitsSigned w64 row.0.0 → FitsSigned w64 row.0.1
    → list_all (nat_le 32) (row_body names row) ≡ true
row_bytes names row h f g =
    both_all (nat_le 32) (range_text row.0) (flat_map (name_text names) row.1)
    (range_bytes 32 row.0 (omega arith) f g) (names_bytes names row.1 h)
