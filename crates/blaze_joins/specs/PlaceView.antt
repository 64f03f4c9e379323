-- The pairs of a map by their places.
use Rattle.std.specs.Prelude.{ℕ, ℤ, int_lt, if◌then◌else◌, List, [], ◌∷◌, Option, Some, None, slice_get, drop}
use Rattle.element_core.specs.Numbering.{Numbering}
use Rattle.range_map.specs.Valued.{pairs_in_numbers}

-- the item at a place, or none
abbrev pub at_place : {A : Type 0} → List A → Option ℕ → Option A
at_place list None = None
at_place list (Some i) = slice_get list i

-- the pairs of a map from a place on
abbrev pub pairs_from : {T V : Type 0} → Numbering T → ℕ → List ((T × T) × V) → List ((ℤ × ℤ) × V)
pairs_from numbers at pairs = pairs_in_numbers numbers (drop at pairs)

-- the pair at a place, or none
abbrev pub pair_at_place : {T V : Type 0} → Numbering T → List ((T × T) × V) → Option ℕ → Option ((ℤ × ℤ) × V)
pair_at_place numbers pairs place = at_place (pairs_in_numbers numbers pairs) place

-- the ranges from the first on that ends at n or behind it
abbrev pub ranges_from : {V : Type 0} → ℤ → List ((ℤ × ℤ) × V) → List ((ℤ × ℤ) × V)
ranges_from n [] = []
ranges_from n (p ∷ rest) = if int_lt p.0.1 n then ranges_from n rest else p ∷ rest

-- those that end behind n, of ranges of which none ends before it
abbrev pub ranges_behind : {V : Type 0} → ℤ → List ((ℤ × ℤ) × V) → List ((ℤ × ℤ) × V)
ranges_behind n [] = []
ranges_behind n (p ∷ rest) = if int_lt n p.0.1 then p ∷ rest else rest
