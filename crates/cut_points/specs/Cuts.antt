-- The cuts of a list of ranges: the numbers at which membership changes.
use Rattle.std.specs.Prelude.{◌%◌, ◌==◌, ℤ, pos, ◌+ℤ◌, ◌-ℤ◌, ◌≤ℤ◌, Bool, int_le, int_lt, if◌then◌else◌, List, [], ◌∷◌, drop, flat_map}
use Rattle.std.specs.List.{count_by}

-- the numbers lie from lo to hi, and each is less than the next
abbrev pub IsAscending : ℤ → ℤ → List ℤ → Type 0
IsAscending lo hi [] = Unit {0}
IsAscending lo hi (c ∷ rest) = (lo ≤ℤ c) × (c ≤ℤ hi) × IsAscending (c +ℤ pos 1) hi rest

-- each start, and each end's successor where the end is below the greatest number
abbrev pub cuts : ℤ → List (ℤ × ℤ) → List ℤ
cuts greatest [] = []
cuts greatest (r ∷ rest) =
    if int_lt r.1 greatest then r.0 ∷ (r.1 +ℤ pos 1) ∷ cuts greatest rest else r.0 ∷ cuts greatest rest

-- the cuts still to come, where the start of the first range was passed or wasn't
abbrev pub cuts_left : ℤ → Bool → List (ℤ × ℤ) → List ℤ
cuts_left greatest begun ranges = if begun then drop 1 (cuts greatest ranges) else cuts greatest ranges

-- the cuts of each range taken alone, range by range
abbrev pub cuts_alone : ℤ → List (ℤ × ℤ) → List ℤ
cuts_alone greatest ranges = flat_map (λ r. cuts greatest (r ∷ [])) ranges

-- the ranges with these cuts: each cut begins a range or ends one, and the last range goes to the greatest number where no cut ends it
abbrev pub from_cuts : ℤ → List ℤ → List (ℤ × ℤ)
from_cuts greatest [] = []
from_cuts greatest (c ∷ []) = (c, greatest) ∷ []
from_cuts greatest (c ∷ d ∷ rest) = (c, d -ℤ pos 1) ∷ from_cuts greatest rest

-- whether the count of cuts at most x is odd
abbrev pub parity : List ℤ → ℤ → Bool
parity list x = count_by (λ c. int_le c x) list % 2 == 1
