-- One step each of the walks over canonical lists of ranges of numbers.
use Rattle.std.specs.Prelude.{◌≡◌, ℤ, pos, ◌+ℤ◌, ◌≤ℤ◌, false, ◌&&◌, ◌||◌, int_le, List, [], ◌∷◌, ◌++◌, filter, ◌⊎◌}
use Rattle.std.specs.Int.{int_min, int_max}
use Rattle.number_line.specs.Ranges.{lies_in, holds, IsCanonical}

-- no range begins above n
abbrev pub BeginBy : ℤ → List (ℤ × ℤ) → Type 0
BeginBy n [] = Unit {0}
BeginBy n (r ∷ rest) = (r.0 ≤ℤ n) × BeginBy n rest

-- each range ends two or more before n
abbrev pub EndApart : ℤ → List (ℤ × ℤ) → Type 0
EndApart n [] = Unit {0}
EndApart n (r ∷ rest) = ((r.1 +ℤ pos 2) ≤ℤ n) × EndApart n rest

-- each range ends at n or behind it
abbrev pub EndFrom : ℤ → List (ℤ × ℤ) → Type 0
EndFrom n [] = Unit {0}
EndFrom n (r ∷ rest) = (n ≤ℤ r.1) × EndFrom n rest

-- the ranges that end at n or behind it
abbrev pub ending_from : ℤ → List (ℤ × ℤ) → List (ℤ × ℤ)
ending_from n ranges = filter (λ r. int_le n r.1) ranges

-- r is a first range of `left` or `right`, and `left_after` and `right_after` are left of them without it: no range begins before r
pub record IsTaken (hi : ℤ) (left right : List (ℤ × ℤ)) (r : ℤ × ℤ) (left_after right_after : List (ℤ × ℤ)) : Type 0 where
  pub members : (x : ℤ) → (holds left x || holds right x) ≡ (lies_in r x || (holds left_after x || holds right_after x))
  pub range : (n : ℤ) → IsCanonical n hi left → IsCanonical n hi right
      → (n ≤ℤ r.0) × (r.0 ≤ℤ r.1) × (r.1 ≤ℤ hi) × IsCanonical r.0 hi left_after × IsCanonical r.0 hi right_after

-- `new` holds what `old` holds and what lies in r
pub record IsJoined (lo hi : ℤ) (old : List (ℤ × ℤ)) (r : ℤ × ℤ) (new : List (ℤ × ℤ)) : Type 0 where
  pub canonical : IsCanonical lo hi new
  pub members : (x : ℤ) → holds new x ≡ (holds old x || lies_in r x)
  pub begin_by : BeginBy r.0 new

-- `new` is `old`, and behind it the range from `start` to below `next` where that isn't empty
abbrev pub IsGapPushed : List (ℤ × ℤ) → ℤ → ℤ → List (ℤ × ℤ) → Type 0
IsGapPushed old start next new =
    ((new ≡ old) × (next ≤ℤ start)) ⊎ ((r : ℤ × ℤ) × (new ≡ old ++ r ∷ []) × (r.0 ≡ start) × (r.1 +ℤ pos 1 ≡ next) × (r.0 ≤ℤ r.1))

-- `new` is `old`, and behind it the range of the numbers in both a and b where there are any
abbrev pub IsCommonPushed : List (ℤ × ℤ) → ℤ × ℤ → ℤ × ℤ → List (ℤ × ℤ) → Type 0
IsCommonPushed old a b new =
    ((new ≡ old) × ((x : ℤ) → (lies_in a x && lies_in b x) ≡ false))
    ⊎ ((r : ℤ × ℤ) × (new ≡ old ++ r ∷ []) × (r.0 ≡ int_max a.0 b.0) × (r.1 ≡ int_min a.1 b.1) × (r.0 ≤ℤ r.1))

-- no range begins before n, and none before the one that stands before it
abbrev pub BeginInOrderFrom : ℤ → List (ℤ × ℤ) → Type 0
BeginInOrderFrom n [] = Unit {0}
BeginInOrderFrom n (r ∷ rest) = (n ≤ℤ r.0) × BeginInOrderFrom r.0 rest

-- no range begins before the one that stands before it
abbrev pub BeginInOrder : List (ℤ × ℤ) → Type 0
BeginInOrder [] = Unit {0}
BeginInOrder (r ∷ rest) = BeginInOrderFrom r.0 rest
