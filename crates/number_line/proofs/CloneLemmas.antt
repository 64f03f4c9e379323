-- Lists whose values are clones of those of another list, and clones that are put behind others.
use Rattle.std.proofs.Common.{◌≡◌, List, [], ◌∷◌, ◌++◌, refl, ap, ◌∙◌, append_assoc}
use Rattle.std.specs.Prelude.{ℤ, Bool, true, false, if◌then◌else◌, Some}
use Rattle.std.specs.List.{AllZip}
use Rattle.std.specs.Option.{option_eq}
use Rattle.std.specs.Ordering.{int_eq}
use Rattle.std.proofs.lemmas.Bool.Decides.{Decides-int_eq}
use Rattle.number_line.specs.Ranges.{lies_in}
use Rattle.number_line.specs.Valued.{value_at, same_list}
use Rattle.number_line.specs.Parts.{ArePairClones}
use Rattle.number_line.proofs.ZippedLemmas.{IsZipped}

module _ {A B : Type 0} (R : A → B → Type 0) where
  pub zip_append : (xs ys : List A) (cs bs : List B) → AllZip R xs cs → AllZip R ys bs → AllZip R (xs ++ ys) (cs ++ bs)
  zip_append [] ys [] bs h k = k
  zip_append [] ys (a ∷ cs) bs h k = absurd h
  zip_append (x ∷ xs) ys [] bs h k = absurd h
  zip_append (x ∷ xs) ys (a ∷ cs) bs h k = (h.0, zip_append xs ys cs bs h.1 k)

  -- several items at once
  pub zipped_append : (left front rest all : List A) (made new added : List B) → new ≡ made ++ added → left ≡ front ++ rest → AllZip R front added
      → IsZipped R left all made → IsZipped R rest all new
  zipped_append left front rest all made new added is_new is_left related so_far = record {
    completed = λ more h.
        let grouped : new ++ more ≡ made ++ (added ++ more) = ap (λ xs. xs ++ more) is_new ∙ append_assoc made added more in
        let both : AllZip R left (added ++ more) = rw is_left (zip_append front rest added more related h) in
        rw grouped (so_far.completed (added ++ more) both);
  }

module _ {V : Type 0} (is_clone : V → V → Type 0) (same : V → V → Bool) (equal : (a b : V) → is_clone a b → same b a ≡ true) where
  -- clones that equal their source make lists that are the same
  pub clones_same : (list copy : List ((ℤ × ℤ) × V)) → ArePairClones is_clone list copy → same_list same copy list ≡ true
  clones_same [] [] h = refl
  clones_same [] (q ∷ copy) h = absurd h
  clones_same (p ∷ list) [] h = absurd h
  clones_same (p ∷ list) (q ∷ copy) h =
      let range : q.0 ≡ p.0 = h.0.0 in
      let first : int_eq q.0.0 p.0.0 ≡ true = (Decides-int_eq q.0.0 p.0.0).1 (ap (λ r. r.0) range) in
      let last : int_eq q.0.1 p.0.1 ≡ true = (Decides-int_eq q.0.1 p.0.1).1 (ap (λ r. r.1) range) in
      let value : same q.1 p.1 ≡ true = equal p.1 q.1 h.0.1 in
      rw (first, last, value) (clones_same list copy h.1)

  -- and have equal values
  pub clones_values : (list copy : List ((ℤ × ℤ) × V)) (x : ℤ) → ArePairClones is_clone list copy → option_eq same (value_at copy x) (value_at list x) ≡ true
  clones_values [] [] x h = refl
  clones_values [] (q ∷ copy) x h = absurd h
  clones_values (p ∷ list) [] x h = absurd h
  clones_values (p ∷ list) (q ∷ copy) x h =
      let range : q.0 ≡ p.0 = h.0.0 in
      let value : same q.1 p.1 ≡ true = equal p.1 q.1 h.0.1 in
      rw range (at (lies_in p.0 x) value (clones_values list copy x h.1))
    where
      at : (b : Bool) → same q.1 p.1 ≡ true → option_eq same (value_at copy x) (value_at list x) ≡ true
          → option_eq same (if b then Some q.1 else value_at copy x) (if b then Some p.1 else value_at list x) ≡ true
      at true value rest = value
      at false value rest = rest
