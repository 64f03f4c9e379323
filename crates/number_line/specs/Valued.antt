-- Lists of ranges of whole numbers that carry a value each. Values are compared by a test `same`, the `==` of their type.
use Rattle.std.specs.Prelude.{◌≡◌, ℤ, pos, ◌+ℤ◌, ◌≤ℤ◌, Bool, true, false, ◌&&◌, if◌then◌else◌, Option, Some, None, List, [], ◌∷◌}
use Rattle.std.specs.Cmp.Lexicographic.{pointwise}
use Rattle.std.specs.Option.{option_eq}
use Rattle.std.specs.Ordering.{int_eq}
use Rattle.number_line.specs.Ranges.{lies_in}

-- the value at x: that of the first pair whose range holds x, or none
abbrev pub value_at : {V : Type 0} → List ((ℤ × ℤ) × V) → ℤ → Option V
value_at [] x = None
value_at (p ∷ rest) x = if lies_in p.0 x then Some p.1 else value_at rest x

-- p doesn't go on in the first pair of the list: that one begins further on, or its value is another
abbrev pub StopsBefore : {V : Type 0} → (V → V → Bool) → (ℤ × ℤ) × V → List ((ℤ × ℤ) × V) → Type 0
StopsBefore same p [] = Unit {0}
StopsBefore same p (next ∷ rest) = next.0.0 ≡ p.0.1 +ℤ pos 1 → same p.1 next.1 ≡ false

-- the ranges lie between lo and hi, none is empty, they ascend without overlap, and ranges that touch have different values
abbrev pub IsCanonicalMap : {V : Type 0} → (V → V → Bool) → ℤ → ℤ → List ((ℤ × ℤ) × V) → Type 0
IsCanonicalMap same lo hi [] = Unit {0}
IsCanonicalMap same lo hi (p ∷ rest) =
    (lo ≤ℤ p.0.0) × (p.0.0 ≤ℤ p.0.1) × (p.0.1 ≤ℤ hi) × StopsBefore same p rest × IsCanonicalMap same (p.0.1 +ℤ pos 1) hi rest

-- at each number from lo to hi the list has the same value as the labelling f, or none where f has none
abbrev pub HasValues : {V : Type 0} → (V → V → Bool) → (ℤ → Option V) → ℤ → ℤ → List ((ℤ × ℤ) × V) → Type 0
HasValues same f lo hi list = (x : ℤ) → lo ≤ℤ x → x ≤ℤ hi → option_eq same (value_at list x) (f x) ≡ true

-- one range, and values that are the same
abbrev pub same_valued : {V : Type 0} → (V → V → Bool) → (ℤ × ℤ) × V → (ℤ × ℤ) × V → Bool
same_valued same p q = int_eq p.0.0 q.0.0 && (int_eq p.0.1 q.0.1 && same p.1 q.1)

-- the lists are the same, pair by pair
abbrev pub same_list : {V : Type 0} → (V → V → Bool) → List ((ℤ × ℤ) × V) → List ((ℤ × ℤ) × V) → Bool
same_list same = pointwise (same_valued same)
