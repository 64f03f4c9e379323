-- A list of ranges with values, in which the values are written one after another, and touching ranges with the same value joined.
use Rattle.std.proofs.Common.{◌≡◌, List, [], ◌∷◌, ◌++◌, refl, ap, arith, sym, ◌∙◌, append_assoc, append-nil}
use Rattle.std.specs.Prelude.{ℤ, pos, ◌+ℤ◌, ◌≤ℤ◌, ◌<ℤ◌, Bool, true, false, is_some, if◌then◌else◌, Option, Some, None}
use Rattle.std.specs.Cmp.{IsEquivalence}
use Rattle.std.specs.List.{fold}
use Rattle.std.specs.Option.{option_eq}
use Rattle.std.proofs.lemmas.Int.{ints}
use Rattle.number_line.specs.Kept.{touches}
use Rattle.number_line.specs.Ranges.{lies_in}
use Rattle.number_line.specs.Valued.{value_at, StopsBefore, IsCanonicalMap}
use Rattle.number_line.specs.Merged.{goes_on, longer, put_behind, merged}
use Rattle.number_line.specs.Pieces.{Calls, with_answers, IsJoined}
use Rattle.number_line.specs.Answered.{IsAnswered}
use Rattle.number_line.proofs.MergedFirst.{joined_pieces}
use Rattle.number_line.proofs.MergedValues.{AreOrdered, ordered_canonical, value_merged}

-- each range ends below n
abbrev EndsBelow : {V : Type 0} → ℤ → List ((ℤ × ℤ) × V) → Type 0
EndsBelow n [] = Unit {0}
EndsBelow n (p ∷ rest) = (p.0.1 <ℤ n) × EndsBelow n rest

module _ {X : Type 0} (same : X → X → Bool) (hi : ℤ) where
  -- the first range keeps its first number and its value
  stops_put : (q : (ℤ × ℤ) × X) (next : (ℤ × ℤ) × X) (rest : List ((ℤ × ℤ) × X)) (p : (ℤ × ℤ) × X) → StopsBefore same q (next ∷ rest)
      → StopsBefore same q (put_behind same (next ∷ rest) p)
  stops_put q next [] p stops = at (goes_on same next p)
    where
      at : (b : Bool) → StopsBefore same q (if b then longer next p ∷ [] else next ∷ p ∷ [])
      at true = stops
      at false = stops
  stops_put q next (r ∷ rest) p stops = stops

  no_touch : (last p : (ℤ × ℤ) × X) → goes_on same last p ≡ false → p.0.0 ≡ last.0.1 +ℤ pos 1 → same last.1 p.1 ≡ false
  no_touch last p e touch =
      let yes : touches last.0 p.0 ≡ true = grind (arith, ints) in
      rw yes at e

  put_canonical : (lo : ℤ) (list : List ((ℤ × ℤ) × X)) (p : (ℤ × ℤ) × X) → IsCanonicalMap same lo hi list → EndsBelow p.0.0 list → lo ≤ℤ p.0.0 → p.0.0 ≤ℤ p.0.1
      → p.0.1 ≤ℤ hi → IsCanonicalMap same lo hi (put_behind same list p)
  put_canonical lo [] p c e low ordered high = (low, ordered, high, tt, tt)
  put_canonical lo (last ∷ []) p c e low ordered high = at (goes_on same last p) refl
    where
      at : (b : Bool) → goes_on same last p ≡ b → IsCanonicalMap same lo hi (if b then longer last p ∷ [] else last ∷ p ∷ [])
      at true h = (c.0, omega (arith, ints, c.1, e.0, ordered), high, tt, tt)
      at false h = (c.0, c.1, c.2, no_touch last p h, (omega (arith, ints, e.0), ordered, high, tt, tt))
  put_canonical lo (q ∷ next ∷ rest) p c e low ordered high =
      (c.0, c.1, c.2, stops_put q next rest p c.3, put_canonical (q.0.1 +ℤ pos 1) (next ∷ rest) p c.4 e.1 (omega (arith, ints, e.0)) ordered high)

  put_ends : (n : ℤ) (list : List ((ℤ × ℤ) × X)) (p : (ℤ × ℤ) × X) → EndsBelow p.0.0 list → p.0.0 ≤ℤ p.0.1 → p.0.1 <ℤ n → EndsBelow n (put_behind same list p)
  put_ends n [] p e ordered h = (h, tt)
  put_ends n (last ∷ []) p e ordered h = at (goes_on same last p)
    where
      at : (b : Bool) → EndsBelow n (if b then longer last p ∷ [] else last ∷ p ∷ [])
      at true = (h, tt)
      at false = (omega (arith, ints, e.0, ordered, h), (h, tt))
  put_ends n (q ∷ next ∷ rest) p e ordered h = (omega (arith, ints, e.0, ordered, h), put_ends n (next ∷ rest) p e.1 ordered h)

  raised : (n m : ℤ) (list : List ((ℤ × ℤ) × X)) → n ≤ℤ m → EndsBelow n list → EndsBelow m list
  raised n m [] h e = tt
  raised n m (p ∷ rest) h e = (omega (arith, ints, e.0, h), raised n m rest h e.1)

  folded_canonical : {H : Type 0} (alike : H → H → Bool) (lo m : ℤ) (list : List ((ℤ × ℤ) × X)) (pairs : List ((ℤ × ℤ) × H)) (answers : List X) → IsCanonicalMap same lo hi list
      → EndsBelow m list → lo ≤ℤ m → IsCanonicalMap alike m hi pairs → IsCanonicalMap same lo hi (fold (put_behind same) list (with_answers pairs answers))
  folded_canonical alike lo m list [] answers c e h k = c
  folded_canonical alike lo m list (p ∷ pairs) [] c e h k = c
  folded_canonical alike lo m list (p ∷ pairs) (x ∷ answers) c e h k =
      let ends : EndsBelow p.0.0 list = raised m p.0.0 list k.0 e in
      folded_canonical alike lo (p.0.1 +ℤ pos 1) (put_behind same list (p.0, x)) pairs answers
      (put_canonical lo list (p.0, x) c ends (omega (arith, ints, h, k.0)) k.1 k.2)
      (put_ends (p.0.1 +ℤ pos 1) list (p.0, x) ends k.1 (omega (arith, ints)))
      (omega (arith, ints, h, k.0, k.1)) k.4

module _ {F V X : Type 0} (step : F → V → X → F → Type 0) where
  -- `done` is what the calls at the pairs before `left` made; whatever calls at those that are left make, all calls make both
  pub record IsAnsweredSoFar (f0 f : F) (all left : List ((ℤ × ℤ) × V)) (done : List ((ℤ × ℤ) × X)) : Type 0 where
    pub completed : (answers : List X) (last : F) → Calls step f left answers last
        → (whole : List X) × Calls step f0 all whole last × (done ++ with_answers left answers ≡ with_answers all whole)

  pub answered_start : (f : F) (all : List ((ℤ × ℤ) × V)) → IsAnsweredSoFar f f all all []
  answered_start f all = record { completed = λ answers last calls. (answers, calls, refl) }

  pub answered_step : (f0 f next : F) (all left rest : List ((ℤ × ℤ) × V)) (done new : List ((ℤ × ℤ) × X)) (p : (ℤ × ℤ) × V) (x : X) → left ≡ p ∷ rest
      → new ≡ done ++ (p.0, x) ∷ [] → step f p.1 x next → IsAnsweredSoFar f0 f all left done → IsAnsweredSoFar f0 next all rest new
  answered_step f0 f next all left rest done new p x is_left is_new called so_far = record {
    completed = λ answers last calls.
        let before = rw is_left at so_far.completed in
        let whole = before (x ∷ answers) last (next, called, calls) in
        (whole.0, whole.1, ap (λ l. l ++ with_answers rest answers) is_new ∙ (append_assoc done ((p.0, x) ∷ []) (with_answers rest answers) ∙ whole.2));
  }

  pub answered_all : (f0 f : F) (all left : List ((ℤ × ℤ) × V)) (done : List ((ℤ × ℤ) × X)) → left ≡ [] → IsAnsweredSoFar f0 f all left done → IsAnswered step f0 all done
  answered_all f0 f all left done none so_far =
      let before = rw none at so_far.completed in
      let whole = before [] f refl in
      record { answers = whole.0; last = f; calls = whole.1; is = sym (append-nil done) ∙ whole.2 }

  answers_there : (f : F) (pairs : List ((ℤ × ℤ) × V)) (answers : List X) (last : F) (x : ℤ) → Calls step f pairs answers last
      → is_some (value_at (with_answers pairs answers) x) ≡ is_some (value_at pairs x)
  answers_there f [] [] last x c = refl
  answers_there f [] (y ∷ answers) last x c = absurd c
  answers_there f (p ∷ pairs) [] last x c = absurd c
  answers_there f (p ∷ pairs) (y ∷ answers) last x c = at (lies_in p.0 x) (answers_there c.0 pairs answers last x c.2)
    where
      at : (b : Bool) → is_some (value_at (with_answers pairs answers) x) ≡ is_some (value_at pairs x)
          → is_some (if b then Some y else value_at (with_answers pairs answers) x) ≡ is_some (if b then Some p.1 else value_at pairs x)
      at true e = refl
      at false e = e

  ordered_answers : (pairs : List ((ℤ × ℤ) × V)) (answers : List X) → AreOrdered pairs → AreOrdered (with_answers pairs answers)
  ordered_answers [] answers o = tt
  ordered_answers (p ∷ pairs) [] o = tt
  ordered_answers (p ∷ pairs) (x ∷ answers) o = (o.0, ordered_answers pairs answers o.1)

  module _ (same : X → X → Bool) (alike : V → V → Bool) (lo hi : ℤ) (f : F) (pairs : List ((ℤ × ℤ) × V)) (list map : List ((ℤ × ℤ) × X)) where
    -- answers that are then merged
    pub answered_joined : IsCanonicalMap alike lo hi pairs → IsAnswered step f pairs list → map ≡ merged same list → IsJoined step same f pairs map
    answered_joined c a is = joined_pieces step same alike lo hi f pairs map a.answers a.last c a.calls (is ∙ ap (merged same) a.is)

    there_alike : (a b : Option X) → option_eq same a b ≡ true → is_some a ≡ is_some b
    there_alike None None e = refl
    there_alike None (Some y) e = absurd (cc)
    there_alike (Some x) None e = absurd (cc)
    there_alike (Some x) (Some y) e = refl

    -- the same numbers have a value
    pub answered_keys : IsEquivalence same → IsCanonicalMap alike lo hi pairs → IsAnswered step f pairs list → map ≡ merged same list
        → (x : ℤ) → is_some (value_at map x) ≡ is_some (value_at pairs x)
    answered_keys eq c a is x =
        let ordered = ordered_answers pairs a.answers (ordered_canonical alike lo hi pairs c) in
        there_alike (value_at map x) (value_at (with_answers pairs a.answers) x) (rw (is, a.is) (value_merged same eq (with_answers pairs a.answers) x ordered))
        ∙ answers_there f pairs a.answers a.last x a.calls

    pub answered_canonical : IsCanonicalMap alike lo hi pairs → IsAnswered step f pairs list → map ≡ merged same list → IsCanonicalMap same lo hi map
    answered_canonical c a is = rw (is, a.is) (folded_canonical same hi alike lo lo [] pairs a.answers tt tt (omega (arith, ints)) c)
