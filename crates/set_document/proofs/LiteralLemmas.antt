use Rattle.std.proofs.Common.{◌≡◌, ℕ, List, [], ◌∷◌, ◌++◌, refl, ap, arith, sym, ◌∙◌}
use Rattle.std.specs.Prelude.{ℤ, pos, ◌+ℤ◌, ◌-ℤ◌, ◌≤ℤ◌, ◌<ℤ◌, Bool, true, false, ◌||◌, int_le, Option, Some, None}
use Rattle.std.specs.Ordering.{int_cmp, int_eq}
use Rattle.std.proofs.lemmas.Int.{ints, by_lt_z}
use Rattle.std.proofs.lemmas.List.{map-append}
use Rattle.number_line.specs.Ranges.{lies_in}
use Rattle.ordered_lists.specs.Lists.{has}
use Rattle.cut_points.specs.Cuts.{cuts, cuts_alone}
use Rattle.number_line.proofs.OrderLemmas.{le_yes, le_no, lt_yes, lt_no}
use Rattle.cut_points.proofs.CutLemmas.{has_cons, eq_same}
use Rattle.set_document.specs.Numbers.{greatest}
use Rattle.text_lines.specs.Lines.{lines, words}
use Rattle.set_document.specs.Text.{form, kind, Form, Kind, Number, Span, Empty, Full, Name, Not, Or, And, Minus, Xor, Comment, Named, Bad}
use Rattle.set_document.specs.Truth.{Lines, at, after_word, after_words, truth, after_form, after_lines, named_lines}
use Rattle.truth_blocks.specs.Stack.{last_value}
use Rattle.set_document.specs.Literals.{literal, literals_of_words, literals_of_form, literals_of, literal_cuts}

neither : (a b : Bool) → (a || b) ≡ false → (a ≡ false) × (b ≡ false)
neither true b e = absurd (cc)
neither false b e = (refl, e)

pub has_append : (xs ys : List ℤ) (x : ℤ) → has int_cmp (xs ++ ys) x ≡ (has int_cmp xs x || has int_cmp ys x)
has_append [] ys x = refl
has_append (c ∷ xs) ys x = rw (has_cons c (xs ++ ys) x, has_cons c xs x, has_append xs ys x) (or_group (int_eq c x) (has int_cmp xs x) (has int_cmp ys x))
  where
    or_group : (a b c : Bool) → (a || (b || c)) ≡ ((a || b) || c)
    or_group true b c = refl
    or_group false b c = refl

not_same : (x c : ℤ) → int_eq c x ≡ false → x ≡ c → ⊥
not_same x c e f = let t : int_eq c x ≡ true = rw f (eq_same c) in absurd (cc)

start_on : (s x : ℤ) → (x ≡ s → ⊥) → int_le s x ≡ int_le s (x -ℤ pos 1)
start_on s x h = by_lt_z x s (λ k. rw (le_no s x k, le_no s (x -ℤ pos 1) (omega (arith, ints))) refl)
    (λ k. by_lt_z s x (λ m. rw (le_yes s x k, le_yes s (x -ℤ pos 1) (omega (arith, ints))) refl) (λ m. absurd (h (omega (arith, ints)))))

end_on : (e x : ℤ) → (x ≡ e +ℤ pos 1 → ⊥) → int_le x e ≡ int_le (x -ℤ pos 1) e
end_on e x h = by_lt_z e x
    (λ k. by_lt_z (e +ℤ pos 1) x (λ m. rw (le_no x e k, le_no (x -ℤ pos 1) e (omega (arith, ints))) refl) (λ m. absurd (h (omega (arith, ints)))))
    (λ k. rw (le_yes x e k, le_yes (x -ℤ pos 1) e (omega (arith, ints))) refl)

-- a range holds both of two neighbours or neither, where the second is no cut of it
pub lies_on : (r : ℤ × ℤ) (x : ℤ) → x ≤ℤ greatest → has int_cmp (cuts greatest (r ∷ [])) x ≡ false → lies_in r x ≡ lies_in r (x -ℤ pos 1)
lies_on r x q h = by_lt_z r.1 greatest below last
  where
    below : r.1 <ℤ greatest → lies_in r x ≡ lies_in r (x -ℤ pos 1)
    below k =
        let both = neither (int_eq r.0 x) (has int_cmp ((r.1 +ℤ pos 1) ∷ []) x) (sym (has_cons r.0 ((r.1 +ℤ pos 1) ∷ []) x) ∙ (rw (lt_yes r.1 greatest k) at h)) in
        let after = neither (int_eq (r.1 +ℤ pos 1) x) false (sym (has_cons (r.1 +ℤ pos 1) [] x) ∙ both.1) in
        rw (start_on r.0 x (not_same x r.0 both.0), end_on r.1 x (not_same x (r.1 +ℤ pos 1) after.0)) refl

    last : greatest ≤ℤ r.1 → lies_in r x ≡ lies_in r (x -ℤ pos 1)
    last k =
        let start = neither (int_eq r.0 x) false (sym (has_cons r.0 [] x) ∙ (rw (lt_no r.1 greatest k) at h)) in
        rw (start_on r.0 x (not_same x r.0 start.0), le_yes x r.1 (omega (arith, ints)), le_yes (x -ℤ pos 1) r.1 (omega (arith, ints))) refl

-- ---- words, at two neighbours of which the second is no cut of a literal

alone_cons : (r : ℤ × ℤ) (rs : List (ℤ × ℤ)) (x : ℤ) → has int_cmp (cuts_alone greatest (r ∷ rs)) x ≡ false
    → (has int_cmp (cuts greatest (r ∷ [])) x ≡ false) × (has int_cmp (cuts_alone greatest rs) x ≡ false)
alone_cons r rs x h = neither _ _ (sym (has_append (cuts greatest (r ∷ [])) (cuts_alone greatest rs) x) ∙ h)

alone_append : (as' bs : List (ℤ × ℤ)) (x : ℤ) → has int_cmp (cuts_alone greatest (as' ++ bs)) x ≡ false
    → (has int_cmp (cuts_alone greatest as') x ≡ false) × (has int_cmp (cuts_alone greatest bs) x ≡ false)
alone_append [] bs x h = (refl, h)
alone_append (r ∷ as') bs x h =
    let one = alone_cons r (as' ++ bs) x h in
    let two = alone_append as' bs x one.1 in
    (has_append (cuts greatest (r ∷ [])) (cuts_alone greatest as') x ∙ rw (one.0, two.0) refl, two.1)

pub word_on : (earlier : List (List ℕ × Bool)) (x : ℤ) (values : List Bool) (k : Option Kind) → x ≤ℤ greatest
    → has int_cmp (cuts_alone greatest (literal k)) x ≡ false → after_word earlier x values k ≡ after_word earlier (x -ℤ pos 1) values k
word_on earlier x values None q h = refl
word_on earlier x values (Some (Number n)) q h = rw (lies_on (n, n) x q (alone_cons (n, n) [] x h).0) refl
word_on earlier x values (Some (Span s e)) q h = rw (lies_on (s, e) x q (alone_cons (s, e) [] x h).0) refl
word_on earlier x values (Some Empty) q h = refl
word_on earlier x values (Some Full) q h = refl
word_on earlier x values (Some (Name name)) q h = refl
word_on earlier x values (Some Not) q h = refl
word_on earlier x values (Some Or) q h = refl
word_on earlier x values (Some And) q h = refl
word_on earlier x values (Some Minus) q h = refl
word_on earlier x values (Some Xor) q h = refl

pub words_on : (earlier : List (List ℕ × Bool)) (x : ℤ) (values : List Bool) (pieces : List (List ℕ)) → x ≤ℤ greatest
    → has int_cmp (cuts_alone greatest (literals_of_words pieces)) x ≡ false → after_words earlier x values pieces ≡ after_words earlier (x -ℤ pos 1) values pieces
words_on earlier x values [] q h = refl
words_on earlier x values (p ∷ pieces) q h =
    let both = alone_append (literal (kind p)) (literals_of_words pieces) x h in
    let one : after_word earlier x values (kind p) ≡ after_word earlier (x -ℤ pos 1) values (kind p) = word_on earlier x values (kind p) q both.0 in
    words_on earlier x (after_word earlier x values (kind p)) pieces q both.1 ∙ ap (λ v. after_words earlier (x -ℤ pos 1) v pieces) one

-- ---- lines

at_push : (ls : Lines) (name : List ℕ) (f : ℤ → Bool) (x : ℤ) → at (ls ++ (name, f) ∷ []) x ≡ at ls x ++ (name, f x) ∷ []
at_push ls name f x = map-append (λ l. (l.0, l.1 x)) ls ((name, f) ∷ [])

pair : (u v : List (List ℕ × Bool)) (name : List ℕ) (a b : Bool) → u ≡ v → a ≡ b → u ++ (name, a) ∷ [] ≡ v ++ (name, b) ∷ []
pair u v name a b e f = cc

pub form_on : (ls : Lines) (f : Form) (x : ℤ) → x ≤ℤ greatest → has int_cmp (cuts_alone greatest (literals_of_form f)) x ≡ false
    → at ls x ≡ at ls (x -ℤ pos 1) → at (after_form ls f) x ≡ at (after_form ls f) (x -ℤ pos 1)
form_on ls Comment x q h e = e
form_on ls (Named name rest) x q h e =
    let t : truth ls (words rest) x ≡ truth ls (words rest) (x -ℤ pos 1) =
    ap last_value (words_on (at ls x) x [] (words rest) q h ∙ ap (λ v. after_words v (x -ℤ pos 1) [] (words rest)) e) in
    at_push ls name (truth ls (words rest)) x
    ∙ (pair (at ls x) (at ls (x -ℤ pos 1)) name (truth ls (words rest) x) (truth ls (words rest) (x -ℤ pos 1)) e t ∙ sym (at_push ls name (truth ls (words rest)) (x -ℤ pos 1)))
form_on ls Bad x q h e = e

pub lines_on : (ls : Lines) (pieces : List (List ℕ)) (x : ℤ) → x ≤ℤ greatest → has int_cmp (cuts_alone greatest (literals_of pieces)) x ≡ false
    → at ls x ≡ at ls (x -ℤ pos 1) → at (after_lines ls pieces) x ≡ at (after_lines ls pieces) (x -ℤ pos 1)
lines_on ls [] x q h e = e
lines_on ls (p ∷ pieces) x q h e =
    let both = alone_append (literals_of_form (form p)) (literals_of pieces) x h in
    lines_on (after_form ls (form p)) pieces x q both.1 (form_on ls (form p) x q both.0 e)

pub changes_at_literals : (text : List ℕ) (x : ℤ) → x ≤ℤ greatest → has int_cmp (literal_cuts text) x ≡ false
    → at (named_lines text) x ≡ at (named_lines text) (x -ℤ pos 1)
unfolding named_lines
changes_at_literals text x q h = lines_on [] (lines text) x q h refl
