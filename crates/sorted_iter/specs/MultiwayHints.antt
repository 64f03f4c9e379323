-- Hints of how many items are to come from a many-way union.
use Rattle.std.specs.Prelude.{◌≡◌, ℕ, ◌+◌, ◌-◌, ◌^◌, ◌≤◌, ltb, min, max, true, cond, List, [], ◌∷◌, length, Option, Some, None, IfSome, All}
use Rattle.std.specs.Iterator.{Count, UpTo}
use Rattle.std.specs.Iterator.SizeHint.{IsWithinCount}
use Rattle.std.specs.Iterator.Runs.{EachRunFrom}
use Rattle.std.specs.List.{AllZip}
use Rattle.std.specs.declared.cmp.Ordering.{Ordering}
use Rattle.sorted_iter.specs.declared.multiway.heads.InputHead.{InputHead}
use Rattle.sorted_iter.specs.MultiwayRunLemmas.{HeadAscends}

-- at least so many items, and at most so many where that is known
abbrev pub Hint : Type 0
Hint = ℕ × Option ℕ

-- what std asks of the hint of a stream that has at most `left` items
abbrev pub IsHint : Count → Hint → Type 0
IsHint left hint = IsWithinCount hint.0 left × IfSome hint.1 (UpTo left)

-- The hint bounds what is to come: a run that went on to `None` has at least as many items as the first part says, and no run has
-- more than the second part says.
abbrev pub BoundsRuns : {S A : Type 0} → (S → Option A → S → Type 0) → S → Hint → Type 0
BoundsRuns steps s hint = EachRunFrom steps s (λ p. (p.whole ≡ true → hint.0 ≤ length p.items) × IfSome hint.1 (λ n. length p.items ≤ n))

-- the greatest first part, plus 1, of the hints, as far as it fits, and 0 without hints
abbrev pub greatest_lower : List Hint → ℕ
greatest_lower [] = 0
greatest_lower (h ∷ hints) = max (min (h.0 + 1) (2 ^ 64 - 1)) (greatest_lower hints)

-- the sum of two numbers, where both are known
abbrev pub known_sum : Option ℕ → Option ℕ → Option ℕ
known_sum (Some m) (Some n) = Some (m + n)
known_sum (Some m) None = None
known_sum None n = None

-- the sum of the second parts, each plus 1, where all are known
abbrev pub sum_upper : List Hint → Option ℕ
sum_upper [] = Some 0
sum_upper (h ∷ hints) = known_sum (known_sum h.1 (Some 1)) (sum_upper hints)

-- the number, where it is known and fits
abbrev pub fitting : Option ℕ → Option ℕ
fitting None = None
fitting (Some n) = cond (ltb n (2 ^ 64)) (Some n) None

-- the hint of a many-way union, from the hints of what is left of its inputs behind their heads
abbrev pub multiway_hint : List Hint → Hint
multiway_hint hints = (greatest_lower hints, fitting (sum_upper hints))

-- The inputs behind the heads hs were asked for their hints, and the hint of the stream s is the one from these. It bounds what is to
-- come where theirs do and the inputs ascend.
pub record IsMultiwayHint {S A T : Type 0} (cmp : A → A → Ordering) (steps : S → Option A → S → Type 0) (left : S → Count)
    (hs : List (InputHead S A)) (ofs : T → Option A → T → Type 0) (s : T) (hint : Hint) : Type 0 where
  pub hints : List Hint
  pub asked : AllZip (λ h input. IsHint (left h.rest) input) hs hints
  pub is : hint ≡ multiway_hint hints
  pub bounds : All (HeadAscends cmp steps) hs → AllZip (λ h input. BoundsRuns steps h.rest input) hs hints → BoundsRuns ofs s hint
