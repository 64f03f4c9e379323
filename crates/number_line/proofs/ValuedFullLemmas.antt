-- Canonical lists with values, read from their first range on: whether each number has one, and the ranges alone.
use Rattle.std.proofs.Common.{◌≡◌, List, [], ◌∷◌, refl, arith, ap, ◌∙◌}
use Rattle.std.specs.Prelude.{ℤ, pos, ◌+ℤ◌, ◌≤ℤ◌, ◌<ℤ◌, Bool, true, false, ◌||◌, if◌then◌else◌, Some, None, is_some, map}
use Rattle.std.proofs.lemmas.Int.{ints, by_lt_z}
use Rattle.number_line.specs.Ranges.{lies_in, holds}
use Rattle.number_line.specs.Valued.{value_at, IsCanonicalMap}
use Rattle.number_line.proofs.ValuedLemmas.{inside, before, behind, value_in_first, value_in_rest, none_below}

-- the ranges hold the numbers that have a value
pub ranges_hold : {V : Type 0} (list : List ((ℤ × ℤ) × V)) (x : ℤ) → holds (map (λ p. p.0) list) x ≡ is_some (value_at list x)
ranges_hold [] x = refl
ranges_hold (p ∷ rest) x = held (lies_in p.0 x) (ranges_hold rest x)
  where
    held : (b : Bool) → holds (map (λ p. p.0) rest) x ≡ is_some (value_at rest x)
        → (b || holds (map (λ p. p.0) rest) x) ≡ is_some (if b then Some p.1 else value_at rest x)
    held true h = refl
    held false h = h

module _ {V : Type 0} (same : V → V → Bool) (lo hi : ℤ) (all : List ((ℤ × ℤ) × V)) where
  -- each number from lo to hi has a value
  abbrev pub IsTotal : Type 0
  IsTotal = (x : ℤ) → lo ≤ℤ x → x ≤ℤ hi → is_some (value_at all x) ≡ true

  -- each number below n has a value, and what is left of the list has the others
  pub record IsTotalTo (left : List ((ℤ × ℤ) × V)) (n : ℤ) : Type 0 where
    pub low : lo ≤ℤ n
    pub high : n ≤ℤ hi
    pub canonical : IsCanonicalMap same n hi left
    pub later : (x : ℤ) → n ≤ℤ x → value_at all x ≡ value_at left x
    pub below : (x : ℤ) → lo ≤ℤ x → x <ℤ n → is_some (value_at all x) ≡ true

  pub total_start : lo ≤ℤ hi → IsCanonicalMap same lo hi all → IsTotalTo all lo
  total_start order c = record {
    low = omega (arith, ints);
    high = order;
    canonical = c;
    later = λ x h. refl;
    below = λ x p q. absurd (omega (arith, ints));
  }

  -- in the first range each number has a value
  has_value : (left rest : List ((ℤ × ℤ) × V)) (p : (ℤ × ℤ) × V) (n : ℤ) → left ≡ p ∷ rest → IsTotalTo left n → p.0.0 ≤ℤ n
      → (x : ℤ) → lo ≤ℤ x → x ≤ℤ p.0.1 → is_some (value_at all x) ≡ true
  has_value left rest p n is t touch x low high =
      by_lt_z x n (λ u. t.below x low u) (λ u.
      let v : value_at all x ≡ Some p.1 = t.later x u ∙ rw is (value_in_first p rest x (inside p.0 x (omega (arith, ints)) high)) in
      ap is_some v)

  pub total_step : (left rest : List ((ℤ × ℤ) × V)) (p : (ℤ × ℤ) × V) (n next : ℤ) → left ≡ p ∷ rest → IsTotalTo left n → p.0.0 ≤ℤ n
      → next ≡ p.0.1 +ℤ pos 1 → next ≤ℤ hi → IsTotalTo rest next
  total_step left rest p n next is t touch above high =
      let c = rw is at t.canonical in
      let low : lo ≤ℤ n = t.low in
      let first : n ≤ℤ p.0.0 = c.0 in
      let order : p.0.0 ≤ℤ p.0.1 = c.1 in
      record {
        low = omega (arith, ints);
        high = high;
        canonical = rw above c.4;
        later = λ x h. t.later x (omega (arith, ints)) ∙ rw is (value_in_rest p rest x (behind p.0 x (omega (arith, ints))));
        below = λ x l h. has_value left rest p n is t touch x l (omega (arith, ints));
      }

  pub total_end : (left rest : List ((ℤ × ℤ) × V)) (p : (ℤ × ℤ) × V) (n : ℤ) → left ≡ p ∷ rest → IsTotalTo left n → p.0.0 ≤ℤ n → p.0.1 ≡ hi → IsTotal
  total_end left rest p n is t touch last x low high = has_value left rest p n is t touch x low (omega (arith, ints))

  pub gap_is_none : (left rest : List ((ℤ × ℤ) × V)) (p : (ℤ × ℤ) × V) (n : ℤ) → left ≡ p ∷ rest → IsTotalTo left n → n <ℤ p.0.0 → IsTotal → ⊥
  gap_is_none left rest p n is t gap total =
      let c = rw is at t.canonical in
      let order : p.0.0 ≤ℤ p.0.1 = c.1 in
      let none : value_at all n ≡ None = t.later n (omega (arith, ints))
      ∙ rw is (value_in_rest p rest n (before p.0 n gap) ∙ none_below same (p.0.1 +ℤ pos 1) hi rest n c.4 (omega (arith, ints))) in
      let no : is_some (value_at all n) ≡ false = ap is_some none in
      let yes : is_some (value_at all n) ≡ true = total n t.low t.high in
      cc

  pub rest_is_none : (left : List ((ℤ × ℤ) × V)) (n : ℤ) → left ≡ [] → IsTotalTo left n → IsTotal → ⊥
  rest_is_none left n is t total =
      let none : value_at all n ≡ None = t.later n (omega (arith, ints)) ∙ rw is refl in
      let no : is_some (value_at all n) ≡ false = ap is_some none in
      let yes : is_some (value_at all n) ≡ true = total n t.low t.high in
      cc
