-- Several ranges, known by their places from 0 on: where each begins and ends, and which of them hold a number.
use Rattle.std.specs.Prelude.{◌<◌, ◌≤◌, ◌≡◌, ℕ, suc, ◌==◌, ℤ, ◌≤ℤ◌, ◌<ℤ◌, Bool, false, ◌&&◌, int_le, if◌then◌else◌, List, [], ◌∷◌, map}
use Rattle.std.specs.List.{All, list_any}
use Rattle.element_core.specs.Numbering.{Numbering}
use Rattle.number_line.specs.Ranges.{lies_in, xor}
use Rattle.range_map.specs.declared.sweep.bounds.Bound.{Bound}

-- the ranges of pairs
abbrev pub ranges_of : {V : Type 0} → List ((ℤ × ℤ) × V) → List (ℤ × ℤ)
ranges_of pairs = map (λ p. p.0) pairs

-- whether the range at `place` holds x, where the list begins with the place n
abbrev pub lies_at_from : ℕ → List (ℤ × ℤ) → ℕ → ℤ → Bool
lies_at_from n [] place x = false
lies_at_from n (r ∷ rest) place x = if n == place then lies_in r x else lies_at_from (suc n) rest place x

abbrev pub lies_at : List (ℤ × ℤ) → ℕ → ℤ → Bool
lies_at ranges place x = lies_at_from 0 ranges place x

-- the places of the ranges that hold x, ascending, where the list begins with the place n
abbrev pub places_from : ℕ → List (ℤ × ℤ) → ℤ → List ℕ
places_from n [] x = []
places_from n (r ∷ rest) x = if lies_in r x then n ∷ places_from (suc n) rest x else places_from (suc n) rest x

abbrev pub places_at : List (ℤ × ℤ) → ℤ → List ℕ
places_at ranges x = places_from 0 ranges x

-- a bound is a number, and the place of the range that begins there, or that ends at the number before it
abbrev pub bound_in_numbers : {T : Type 0} → Numbering T → Bound T → ℤ × ℕ
bound_in_numbers numbers bound = (numbers.number bound.at, bound.place)

abbrev pub bounds_in_numbers : {T : Type 0} → Numbering T → List (Bound T) → List (ℤ × ℕ)
bounds_in_numbers numbers bounds = map (bound_in_numbers numbers) bounds

-- whether the bound is one of that place, and lies at x or below
abbrev pub is_passed : ℕ → ℤ → ℤ × ℕ → Bool
is_passed place x bound = (bound.1 == place) && int_le bound.0 x

-- whether an odd count of the bounds of that place lie at x or below
abbrev pub crossed : List (ℤ × ℕ) → ℕ → ℤ → Bool
crossed [] place x = false
crossed (bound ∷ rest) place x = xor (is_passed place x bound) (crossed rest place x)

-- the bounds are those of the ranges, but for numbers above the greatest: a range holds a number where one bound was crossed
abbrev pub AreBounds : ℤ → List (ℤ × ℤ) → List (ℤ × ℕ) → Type 0
AreBounds greatest ranges bounds = (place : ℕ) (x : ℤ) → x ≤ℤ greatest → crossed bounds place x ≡ lies_at ranges place x

-- `new` is `old` with the bounds of the range r, which has that place
abbrev pub AreBoundsPushed : ℤ → List (ℤ × ℕ) → ℤ × ℤ → ℕ → List (ℤ × ℕ) → Type 0
AreBoundsPushed greatest old r place new =
    (other : ℕ) (x : ℤ) → x ≤ℤ greatest → crossed new other x ≡ xor (crossed old other x) ((place == other) && lies_in r x)

abbrev pub has_place : List ℕ → ℕ → Bool
has_place places place = list_any (λ other. other == place) places

-- `new` has that place where `old` hasn't, and the other places where `old` has them
abbrev pub IsToggled : List ℕ → ℕ → List ℕ → Type 0
IsToggled old place new = (other : ℕ) → has_place new other ≡ xor (place == other) (has_place old other)

-- whether an odd count of the places is that place
abbrev pub is_odd : List ℕ → ℕ → Bool
is_odd [] place = false
is_odd (other ∷ rest) place = xor (other == place) (is_odd rest place)

-- the places ascend, from n on
abbrev pub AscendFrom : ℕ → List ℕ → Type 0
AscendFrom n [] = Unit {0}
AscendFrom n (place ∷ rest) = (n ≤ place) × AscendFrom (suc place) rest

-- and each is below m
abbrev pub AscendBelow : ℕ → ℕ → List ℕ → Type 0
AscendBelow n m [] = Unit {0}
AscendBelow n m (place ∷ rest) = (n ≤ place) × (place < m) × AscendBelow (suc place) m rest

-- the places of the ranges that hold a number, and the bounds still to come
pub record Active : Type 0 where
  pub places : List ℕ
  pub rest : List (ℤ × ℕ)

-- the places are those at n, and the bounds still to come give those at every later number
abbrev pub AreActive : ℤ → List (ℤ × ℤ) → ℤ → Active → Type 0
AreActive greatest ranges n active =
    (place : ℕ) (x : ℤ) → n ≤ℤ x → x ≤ℤ greatest → xor (has_place active.places place) (crossed active.rest place x)
    ≡ lies_at ranges place x

-- where the bounds are those of some ranges, the places are active at any number
abbrev pub StartsActive : ℤ → List (ℤ × ℕ) → Active → Type 0
StartsActive greatest bounds active = (ranges : List (ℤ × ℤ)) (n : ℤ) → AreBounds greatest ranges bounds
    → AreActive greatest ranges n active

-- what was active at x is, after x was entered, active at each number from x on
abbrev pub StaysActive : ℤ → ℤ → Active → Active → Type 0
StaysActive greatest x before after =
    (ranges : List (ℤ × ℤ)) (n : ℤ) → AreActive greatest ranges x before → x ≤ℤ n → AreActive greatest ranges n after

-- the places are those of the ranges that hold x, where these were active at x
abbrev pub ArePlacesAt : ℤ → ℤ → Active → List ℕ → Type 0
ArePlacesAt greatest x before places = (ranges : List (ℤ × ℤ)) → AreActive greatest ranges x before → places ≡ places_at ranges x

-- the first of the bounds, if any, lies behind n
abbrev pub FirstIsBehind : ℤ → List (ℤ × ℕ) → Type 0
FirstIsBehind n [] = Unit {0}
FirstIsBehind n (bound ∷ rest) = n <ℤ bound.0

-- all bounds lie behind n
abbrev pub AllBehind : ℤ → List (ℤ × ℕ) → Type 0
AllBehind n bounds = All (λ bound. n <ℤ bound.0) bounds

-- from x to `end` the same ranges hold each number, where the places were active at x
abbrev pub HeldAlikeTo : ℤ → ℤ → ℤ → Active → Type 0
HeldAlikeTo greatest x end before = (x ≤ℤ end) × ((ranges : List (ℤ × ℤ)) → AreActive greatest ranges x before
    → (y : ℤ) → x ≤ℤ y → y ≤ℤ end → (place : ℕ) → lies_at ranges place y ≡ lies_at ranges place x)
