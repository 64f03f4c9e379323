-- A canonical list, read from its first range on, and whether each number has a value.
use Rattle.std.proofs.Common.{◌≡◌, List, ◌∷◌, refl, arith, ◌∙◌}
use Rattle.std.specs.Prelude.{ℤ, pos, ◌+ℤ◌, ◌≤ℤ◌, ◌<ℤ◌, Bool, Some, None}
use Rattle.std.specs.Option.{IsSome}
use Rattle.std.proofs.lemmas.Int.{ints, by_lt_z}
use Rattle.number_line.specs.Valued.{value_at, IsCanonicalMap}
use Rattle.number_line.proofs.ValuedLemmas.{inside, before, behind, value_in_first, value_in_rest, none_below}

module _ {V : Type 0} (same : V → V → Bool) (lo hi : ℤ) (all : List ((ℤ × ℤ) × V)) where
  -- what is left of the list has its values from n on
  pub record IsLeftFrom (left : List ((ℤ × ℤ) × V)) (n : ℤ) : Type 0 where
    pub canonical : IsCanonicalMap same n hi left
    pub later : (x : ℤ) → n ≤ℤ x → value_at all x ≡ value_at left x

  -- without its first range
  pub left_step : (left rest : List ((ℤ × ℤ) × V)) (p : (ℤ × ℤ) × V) (n next : ℤ) → left ≡ p ∷ rest → next ≡ p.0.1 +ℤ pos 1 → IsLeftFrom left n → IsLeftFrom rest next
  left_step left rest p n next is above l =
      let c = rw is at l.canonical in
      record {
        canonical = rw above c.4;
        later = λ x h. l.later x (omega (arith, ints)) ∙ rw is (value_in_rest p rest x (behind p.0 x (omega (arith, ints))));
      }

  pub no_value_in_gap : (left rest : List ((ℤ × ℤ) × V)) (p : (ℤ × ℤ) × V) (n : ℤ) → left ≡ p ∷ rest → IsLeftFrom left n
      → (x : ℤ) → n ≤ℤ x → x <ℤ p.0.0 → value_at all x ≡ None
  no_value_in_gap left rest p n is l x low high =
      let c = rw is at l.canonical in
      l.later x low ∙ rw is (value_in_rest p rest x (before p.0 x high) ∙ none_below same (p.0.1 +ℤ pos 1) hi rest x c.4 (omega (arith, ints)))

  pub value_in_range : (left rest : List ((ℤ × ℤ) × V)) (p : (ℤ × ℤ) × V) (n : ℤ) → left ≡ p ∷ rest → IsLeftFrom left n
      → (x : ℤ) → p.0.0 ≤ℤ x → x ≤ℤ p.0.1 → value_at all x ≡ Some p.1
  value_in_range left rest p n is l x low high =
      let c = rw is at l.canonical in
      l.later x (omega (arith, ints)) ∙ rw is (value_in_first p rest x (inside p.0 x low high))

  -- each number below n has a value
  abbrev pub HaveValuesTo : ℤ → Type 0
  HaveValuesTo n = (x : ℤ) → lo ≤ℤ x → x <ℤ n → IsSome (value_at all x)

  pub have_values_step : (left rest : List ((ℤ × ℤ) × V)) (p : (ℤ × ℤ) × V) (n next : ℤ) → left ≡ p ∷ rest → next ≡ p.0.1 +ℤ pos 1 → p.0.0 ≤ℤ n
      → IsLeftFrom left n → HaveValuesTo n → HaveValuesTo next
  have_values_step left rest p n next is above touch l have x low high =
      by_lt_z x n (λ below. have x low below) (λ within.
      let v = value_in_range left rest p n is l x (omega (arith, ints)) (omega (arith, ints)) in rw v refl)
