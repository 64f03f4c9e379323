-- A list of ranges with values, read through a function, as segments, and by the places of its ranges.
use Rattle.std.specs.Prelude.{ℕ, suc, ℤ, if◌then◌else◌, List, [], ◌∷◌, map, slice_get, Option, Some, None}
use Rattle.std.specs.Option.{option_map}
use Rattle.number_line.specs.Ranges.{lies_in}
use Rattle.number_line.specs.Segments.{Segment}

-- the same ranges, each with what g makes of its value
abbrev pub revalued : {V W : Type 0} → (V → W) → List ((ℤ × ℤ) × V) → List ((ℤ × ℤ) × W)
revalued g list = map (λ p. (p.0, g p.1)) list

-- a range with a value as a segment whose label is the value
abbrev pub segment_of : {L : Type 0} → (ℤ × ℤ) × L → Segment L
segment_of p = record { first = p.0.0; last = p.0.1; label = p.1 }

-- the place, counted from 0, of the first range that holds x, or none
abbrev pub place_at : {V : Type 0} → List ((ℤ × ℤ) × V) → ℤ → Option ℕ
place_at [] x = None
place_at (p ∷ rest) x = if lies_in p.0 x then Some 0 else option_map suc (place_at rest x)

-- the value at a place, or none
abbrev pub value_of_place : {V : Type 0} → List ((ℤ × ℤ) × V) → Option ℕ → Option V
value_of_place list None = None
value_of_place {V} list (Some i) = option_map (λ (p : (ℤ × ℤ) × V). p.1) (slice_get list i)

-- the same ranges, each with its place, counted from k, as its value
abbrev pub with_places : {V : Type 0} → ℕ → List ((ℤ × ℤ) × V) → List ((ℤ × ℤ) × ℕ)
with_places k [] = []
with_places k (p ∷ rest) = (p.0, k) ∷ with_places (suc k) rest
