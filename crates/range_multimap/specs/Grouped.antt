-- The values of the pairs whose ranges hold a number.
use Rattle.std.specs.Prelude.{ℤ, if◌then◌else◌, Option, Some, None, List, [], ◌∷◌}
use Rattle.number_line.specs.Ranges.{lies_in}

-- the values of the pairs whose range holds x, in the order of the list and as often as ranges hold x
abbrev pub grouped_at : {V : Type 0} → List ((ℤ × ℤ) × V) → ℤ → List V
grouped_at [] x = []
grouped_at (p ∷ rest) x = if lies_in p.0 x then p.1 ∷ grouped_at rest x else grouped_at rest x

-- the values as a group, or none where there are none
abbrev pub group_of : {V : Type 0} → List V → Option (List V)
group_of [] = None
group_of (v ∷ vs) = Some (v ∷ vs)
