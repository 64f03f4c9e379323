-- What holds of lists of ranges with values.
use Rattle.std.specs.Prelude.{◌≡◌, ℤ, Bool, true, List, []}
use Rattle.number_line.specs.Kept.{placed, kept_and_discarded}
use Rattle.number_line.specs.Valued.{value_at, IsCanonicalMap, HasValues, same_list}

-- two canonical lists of which, at each number, both have no value or both have values that are the same, are the same pair by pair
abbrev pub SameValuesSameList : {V : Type 0} → (V → V → Bool) → Type 0
SameValuesSameList {V} same = (lo hi : ℤ) (a b : List ((ℤ × ℤ) × V)) → IsCanonicalMap same lo hi a → IsCanonicalMap same lo hi b
    → HasValues same (value_at b) lo hi a → same_list same a b ≡ true

-- of a canonical list every pair is kept as it is
abbrev pub CanonicalIsKept : {V : Type 0} → (V → V → Bool) → Type 0
CanonicalIsKept {V} same = (lo hi : ℤ) (list : List ((ℤ × ℤ) × V)) → IsCanonicalMap same lo hi list
    → kept_and_discarded same (placed list) ≡ record { kept = list; discarded = [] }
