-- What is known of the map of the winners.
use Rattle.std.proofs.Common.{◌≡◌, ℕ, suc, ◌+◌, ◌<◌, ◌≤◌, ◌^◌, ◌-◌, List, [], ◌∷◌, ◌++◌, length, refl, ap, arith, sym, ◌∙◌, reverse}
use Rattle.std.specs.Prelude.{ℤ, pos, ◌+ℤ◌, ◌≤ℤ◌, Bool, true, false, ◌||◌, Option, Some, None, nat_eq}
use Rattle.std.specs.Option.{option_eq}
use Rattle.std.proofs.lemmas.Bool.Decides.{Decides-eqb}
use Rattle.std.proofs.lemmas.Int.{ints}
use Rattle.std.proofs.lemmas.List.{reverse-append}
use Rattle.number_line.specs.Ranges.{lies_in}
use Rattle.number_line.specs.Rows.{with_places}
use Rattle.number_line.specs.Valued.{value_at, IsCanonicalMap, HasValues}
use Rattle.number_line.proofs.PlacedLemmas.{by_cases}
use Rattle.number_line.proofs.ValuedLemmas.{inside, behind, value_in_first, value_in_rest}
use Rattle.blaze_joins.specs.LastValue.{last_value_at}
use Rattle.rule_table.specs.Rules.{winner}
use Rattle.rule_table.specs.Winners.{AreWinners, ArePlacesBelow}

-- places that are the same to the test are the same
pub some_place : (a b : Option ℕ) → option_eq nat_eq a b ≡ true → a ≡ b
some_place None None e = refl
some_place None (Some b) e = cc
some_place (Some a) None e = cc
some_place (Some a) (Some b) e = ap Some ((Decides-eqb a b).0 e)

-- the map of the last values of the places has the winners
pub are_winners : {D : Type 0} (rules : List ((ℤ × ℤ) × D)) (places winners : List ((ℤ × ℤ) × ℕ)) → places ≡ with_places 0 rules
    → IsCanonicalMap nat_eq (pos 0) (pos (2 ^ 32 - 1)) winners → HasValues nat_eq (last_value_at places) (pos 0) (pos (2 ^ 32 - 1)) winners → AreWinners rules winners
are_winners rules places winners e c h = record {
  canonical = c;
  values = λ x a. some_place (value_at winners x) (last_value_at places x) (h x a.low a.high) ∙ ap (λ list. last_value_at list x) e;
}

-- ---- a value is the place of a rule

below_append : (n : ℕ) (a b : List ((ℤ × ℤ) × ℕ)) → ArePlacesBelow n a → ArePlacesBelow n b → ArePlacesBelow n (a ++ b)
below_append n [] b p q = q
below_append n (x ∷ a) b p q = (p.0, below_append n a b p.1 q)

below_reverse : (n : ℕ) (a : List ((ℤ × ℤ) × ℕ)) → ArePlacesBelow n a → ArePlacesBelow n (reverse a)
below_reverse n [] p = tt
below_reverse n (x ∷ a) p = rw (reverse-append (x ∷ []) a) (below_append n (reverse a) (x ∷ []) (below_reverse n a p.1) (p.0, tt))

below_places : {D : Type 0} (n k : ℕ) (rules : List ((ℤ × ℤ) × D)) → k + length rules ≤ n → ArePlacesBelow n (with_places k rules)
below_places n k [] h = tt
below_places n k (r ∷ rules) h = (omega arith, below_places n (suc k) rules (omega arith))

pub some_is : {A : Type 0} {a b : A} → Some a ≡ Some b → a ≡ b
some_is e = cc

value_below : (n : ℕ) (list : List ((ℤ × ℤ) × ℕ)) (x : ℤ) (i : ℕ) → ArePlacesBelow n list → value_at list x ≡ Some i → i < n
value_below n [] x i p e = absurd (cc)
value_below n (q ∷ rest) x i p e = by_cases (lies_in q.0 x)
    (λ h. let same : q.1 ≡ i = some_is (sym (value_in_first q rest x h) ∙ e) in let less = p.0 in omega arith)
    (λ h. value_below n rest x i p.1 (sym (value_in_rest q rest x h) ∙ e))

pub winner_below : {D : Type 0} (rules : List ((ℤ × ℤ) × D)) (x : ℤ) (i : ℕ) → winner rules x ≡ Some i → i < length rules
winner_below rules x i e = value_below (length rules) (reverse (with_places 0 rules)) x i (below_reverse (length rules) (with_places 0 rules) (below_places (length rules) 0 rules (omega arith))) e

-- ---- a value that stands in a canonical list is the value at some number

places_below : (n : ℕ) (lo hi : ℤ) (list : List ((ℤ × ℤ) × ℕ)) → IsCanonicalMap nat_eq lo hi list
    → ((x : ℤ) (i : ℕ) → lo ≤ℤ x → x ≤ℤ hi → value_at list x ≡ Some i → i < n) → ArePlacesBelow n list
places_below n lo hi [] c h = tt
places_below n lo hi (p ∷ rest) c h = (
  h p.0.0 p.1 c.0 (omega (arith, ints)) (value_in_first p rest p.0.0 (inside p.0 p.0.0 (omega (arith, ints)) c.1)),
  places_below n (p.0.1 +ℤ pos 1) hi rest c.4 (λ x i u v e. h x i (omega (arith, ints)) v (value_in_rest p rest x (behind p.0 x (omega (arith, ints))) ∙ e)),
)

pub winners_below : {D : Type 0} (rules : List ((ℤ × ℤ) × D)) (winners : List ((ℤ × ℤ) × ℕ)) → AreWinners rules winners → ArePlacesBelow (length rules) winners
winners_below rules winners w = places_below (length rules) (pos 0) (pos (2 ^ 32 - 1)) winners w.canonical
    (λ x i u v e. winner_below rules x i (sym (w.values x (record { low = u; high = v })) ∙ e))

-- some range of the map has the value i
abbrev pub is_among_values : ℕ → List ((ℤ × ℤ) × ℕ) → Bool
is_among_values i [] = false
is_among_values i (p ∷ rest) = nat_eq p.1 i || is_among_values i rest

-- where the value i stands
pub record StandsAt (i : ℕ) (lo hi : ℤ) (list : List ((ℤ × ℤ) × ℕ)) : Type 0 where
  pub at : ℤ
  pub low : lo ≤ℤ at
  pub high : at ≤ℤ hi
  pub value : value_at list at ≡ Some i

pub stands_at : (i : ℕ) (lo hi : ℤ) (list : List ((ℤ × ℤ) × ℕ)) → IsCanonicalMap nat_eq lo hi list → is_among_values i list ≡ true → StandsAt i lo hi list
stands_at i lo hi [] c e = absurd (cc)
stands_at i lo hi (p ∷ rest) c e = by_cases (nat_eq p.1 i)
    (λ h. record {
      at = p.0.0;
      low = c.0;
      high = omega (arith, ints);
      value = value_in_first p rest p.0.0 (inside p.0 p.0.0 (omega (arith, ints)) c.1) ∙ ap Some ((Decides-eqb p.1 i).0 h);
    })
    (λ h.
    let s : StandsAt i (p.0.1 +ℤ pos 1) hi rest = stands_at i (p.0.1 +ℤ pos 1) hi rest c.4 (rw h at e) in
    let low = s.low in
    record {
      at = s.at;
      low = omega (arith, ints);
      high = s.high;
      value = value_in_rest p rest s.at (behind p.0 s.at (omega (arith, ints))) ∙ s.value;
    })

pub stands_nowhere : (i : ℕ) (list : List ((ℤ × ℤ) × ℕ)) (x : ℤ) → is_among_values i list ≡ false → value_at list x ≡ Some i → ⊥
stands_nowhere i [] x e v = cc
stands_nowhere i (p ∷ rest) x e v = by_cases (nat_eq p.1 i)
    (λ h. let wrong = rw h at e in cc)
    (λ h. by_cases (lies_in p.0 x)
    (λ k.
    let same : p.1 ≡ i = some_is (sym (value_in_first p rest x k) ∙ v) in
    let test : nat_eq p.1 i ≡ true = (Decides-eqb p.1 i).1 same in
    cc)
    (λ k. stands_nowhere i rest x (rw h at e) (sym (value_in_rest p rest x k) ∙ v)))
