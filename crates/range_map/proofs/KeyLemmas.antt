-- The keys of a map still to come, each with its value.
use Rattle.std.proofs.Common.{◌≡◌, true, false, Option, Some, None, List, [], ◌∷◌, length, refl, ap, sym, ◌∙◌, arith}
use Rattle.std.specs.Option.{unwrap_or}
use Rattle.std.specs.Prelude.{ℤ, pos, ◌+ℤ◌, ◌<ℤ◌, ◌≤◌, IfSome, IfNone, is_some}
use Rattle.std.proofs.lemmas.List.{length-map}
use Rattle.element_core.specs.Numbering.{Numbering}
use Rattle.number_line.specs.KeysValues.{keys_values}
use Rattle.number_line.proofs.KeyValueLemmas.{keys_step, keys_single, pairs_are_fewer}
use Rattle.range_map.specs.Range.{in_numbers}
use Rattle.range_map.specs.KeysValues.{with_begun}
use Rattle.range_map.specs.Valued.{pair_in_numbers, pairs_in_numbers}

module _ {T V : Type 0} (numbers : Numbering T) where
  -- the first pair, with what is left of its range
  pub first_begun : (begun : Option (T × T)) (all : List ((T × T) × V)) (p : (T × T) × V) (rest : List ((T × T) × V)) (r : T × T) → all ≡ p ∷ rest
      → r ≡ unwrap_or begun p.0 → with_begun begun all ≡ (r, p.1) ∷ rest
  first_begun None all p rest r is e = rw (is, e) refl
  first_begun (Some b) all p rest r is e = rw (is, e) refl

  module _ (r : T × T) (p : (T × T) × V) (rest : List ((T × T) × V)) where
    -- the first key of a range that has no other
    pub first_key_alone : (left : Option (T × T)) → IfNone left (numbers.number r.0 ≡ numbers.number r.1) → is_some left ≡ false
        → keys_values (pairs_in_numbers numbers ((r, p.1) ∷ rest)) ≡ (numbers.number r.0, p.1) ∷ keys_values (pairs_in_numbers numbers (with_begun left rest))
    first_key_alone None alone none = keys_single (in_numbers numbers r) p.1 (pairs_in_numbers numbers rest) alone
    first_key_alone (Some l) alone none = absurd (cc)

    -- and of one that has others
    pub first_key : (left : Option (T × T)) → IfSome left (λ _. numbers.number r.0 <ℤ numbers.number r.1)
        → IfSome left (λ l. in_numbers numbers l ≡ (numbers.number r.0 +ℤ pos 1, numbers.number r.1)) → is_some left ≡ true → (all : List ((T × T) × V)) → all ≡ p ∷ rest
        → keys_values (pairs_in_numbers numbers ((r, p.1) ∷ rest)) ≡ (numbers.number r.0, p.1) ∷ keys_values (pairs_in_numbers numbers (with_begun left all))
    first_key None less others some all is = absurd (cc)
    first_key (Some l) less others some all is =
        keys_step (in_numbers numbers r) p.1 (pairs_in_numbers numbers rest) less
        ∙ rw is (ap (λ q. (numbers.number r.0, p.1) ∷ keys_values ((q, p.1) ∷ pairs_in_numbers numbers rest)) (sym others))

  rest_are_fewer : (rest : List ((T × T) × V)) → length rest ≤ length (keys_values (pairs_in_numbers numbers rest))
  rest_are_fewer rest =
      let view : (T × T) × V → (ℤ × ℤ) × V = pair_in_numbers numbers in
      rw (← length-map rest view) (pairs_are_fewer (pairs_in_numbers numbers rest))

  pub left_are_fewer : (begun : Option (T × T)) (rest : List ((T × T) × V)) → length rest ≤ length (keys_values (pairs_in_numbers numbers (with_begun begun rest)))
  left_are_fewer None rest = rest_are_fewer rest
  left_are_fewer (Some r) [] = omega arith
  left_are_fewer (Some r) (p ∷ rest) = rest_are_fewer ((r, p.1) ∷ rest)
