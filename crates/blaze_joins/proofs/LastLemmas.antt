-- The value of the last pair that holds a number.
use Rattle.std.proofs.Common.{◌≡◌, ℕ, zero, suc, ◌<◌, List, [], ◌∷◌, length, refl, ap, arith, sym, subst, ◌∙◌}
use Rattle.std.specs.Prelude.{ℤ, true, Some, None, reverse}
use Rattle.std.specs.List.{slice_get}
use Rattle.std.specs.Option.{option_or}
use Rattle.std.proofs.lemmas.List.{reverse-append}
use Rattle.std.proofs.lemmas.Option.{slice_get-map}
use Rattle.element_core.specs.Numbering.{Numbering}
use Rattle.number_line.specs.Ranges.{lies_in}
use Rattle.number_line.specs.Valued.{value_at}
use Rattle.range_map.specs.Begun.{NoneHoldsFrom, IsLastAt}
use Rattle.range_map.specs.Range.{in_numbers}
use Rattle.range_map.specs.Valued.{pair_in_numbers, pairs_in_numbers}
use Rattle.range_map.specs.Bounds.{ranges_of}
use Rattle.range_map.proofs.BegunLemmas.{pair_there, place_within}
use Rattle.range_map.proofs.GrowthLemmas.{value_of_pair, value_at-push}
use Rattle.blaze_joins.specs.LastValue.{last_value_at}

module _ {V : Type 0} where
  -- the later pairs decide, and where none of them has a value the first one does
  last_value-cons : (p : (ℤ × ℤ) × V) (rest : List ((ℤ × ℤ) × V)) (x : ℤ) → last_value_at (p ∷ rest) x ≡ option_or (last_value_at rest x) (value_of_pair p x)
  last_value-cons p rest x = ap (λ list. value_at list x) (reverse-append (p ∷ []) rest) ∙ value_at-push (reverse rest) p x

  -- where no range holds the number, no pair has a value there
  pub no_last_value : (pairs : List ((ℤ × ℤ) × V)) (x : ℤ) → NoneHoldsFrom (ranges_of pairs) 0 x → last_value_at pairs x ≡ None
  no_last_value [] x none = refl
  no_last_value (p ∷ rest) x none =
      last_value-cons p rest x ∙ rw (no_last_value rest x (λ place r h there. none (suc place) r (omega arith) there), none 0 p.0 (omega arith) refl) refl

  -- where one holds it and no later one does, the value is that of its pair
  pub last_value_there : (pairs : List ((ℤ × ℤ) × V)) (x : ℤ) (place : ℕ) (pair : (ℤ × ℤ) × V) → slice_get pairs place ≡ Some pair → lies_in pair.0 x ≡ true
      → NoneHoldsFrom (ranges_of pairs) (suc place) x → last_value_at pairs x ≡ Some pair.1
  last_value_there [] x place pair there holds none = absurd (cc)
  last_value_there (p ∷ rest) x zero pair there holds none =
      let one : p ≡ pair = cc in
      last_value-cons p rest x ∙ rw (one, no_last_value rest x (λ place r h found. none (suc place) r (omega arith) found), holds) refl
  last_value_there (p ∷ rest) x (suc place) pair there holds none =
      last_value-cons p rest x ∙ rw (last_value_there rest x place pair there holds (λ other r h found. none (suc other) r (omega arith) found)) refl

-- the last pair that holds the number is the one at the last place
pub record IsLastPair {T V : Type 0} (numbers : Numbering T) (pairs : List ((T × T) × V)) (x : ℤ) (place : ℕ) : Type 0 where
  pub within : place < length pairs
  pub pair : (T × T) × V
  pub there : slice_get pairs place ≡ Some pair
  pub value : last_value_at (pairs_in_numbers numbers pairs) x ≡ Some pair.1

pub last_pair : {T V : Type 0} (numbers : Numbering T) (pairs : List ((T × T) × V)) (x : ℤ) (place : ℕ) → IsLastAt (ranges_of (pairs_in_numbers numbers pairs)) x (Some place)
    → IsLastPair numbers pairs x place
last_pair numbers pairs x place last =
    let found = pair_there numbers pairs place last.0 last.1 in
    let holds : lies_in (in_numbers numbers found.0.0) x ≡ true = subst (λ r. lies_in r x ≡ true) (sym found.2) last.2 in
    record {
      within = place_within numbers pairs place last.0 last.1;
      pair = found.0;
      there = found.1;
      value = last_value_there (pairs_in_numbers numbers pairs) x place (pair_in_numbers numbers found.0)
          (slice_get-map (pair_in_numbers numbers) pairs place ∙ rw found.1 refl) holds last.3;
    }

-- the same, of a pair that is known to stand at that place
pub value_of_last : {T V : Type 0} (numbers : Numbering T) (pairs : List ((T × T) × V)) (x : ℤ) (place : ℕ) (pair : (T × T) × V) → slice_get pairs place ≡ Some pair
    → IsLastAt (ranges_of (pairs_in_numbers numbers pairs)) x (Some place) → last_value_at (pairs_in_numbers numbers pairs) x ≡ Some pair.1
value_of_last numbers pairs x place pair there last =
    let found = last_pair numbers pairs x place last in
    let also = found.there in
    let same : found.pair ≡ pair = cc in
    rw (← same) found.value
