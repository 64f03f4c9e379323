-- Hints of how many items are to come: a lower bound, and an upper one where it is known.
use Rattle.std.specs.Prelude.{◌≡◌, ℕ, ◌+◌, ◌-◌, ◌^◌, ◌≤◌, min, max, false, List, length, Option, Some, None, IfSome, if◌then◌else◌, nat_lt}
use Rattle.std.specs.Iterator.{Count, UpTo}
use Rattle.std.specs.Iterator.SizeHint.{IsWithinCount}
use Rattle.std.specs.List.Sorted.{IsStrictlySortedBy}
use Rattle.std.specs.declared.cmp.Ordering.{Ordering}
use Rattle.sorted_iter.specs.declared.ahead.Head.{Head}
use Rattle.sorted_iter.specs.declared.ahead.Head.TheVariants.{Unread, Held, Ended}
use Rattle.sorted_iter.specs.declared.sides.Sides.{Sides}
use Rattle.sorted_iter.specs.Lookahead.{is_ended, WillGive}

-- the two bounds
abbrev pub Hint : Type 0
Hint = ℕ × Option ℕ

-- what std asks of the hint of an iterator that has c items left at most
abbrev pub IsHint : Count → Hint → Type 0
IsHint c h = IsWithinCount h.0 c × IfSome h.1 (UpTo c)

-- the hint bounds the number of items of xs
abbrev pub Bounds : {A : Type 0} → Hint → List A → Type 0
Bounds h xs = (h.0 ≤ length xs) × IfSome h.1 (λ n. length xs ≤ n)

-- the sum of two upper bounds, where both are known and it fits a `usize`
abbrev pub sum_where_known : Option ℕ → Option ℕ → Option ℕ
sum_where_known None n = None
sum_where_known (Some m) None = None
sum_where_known (Some m) (Some n) = if nat_lt (m + n) (2 ^ 64) then Some (m + n) else None

-- the lesser of two upper bounds, where both are known
abbrev pub lesser_where_known : Option ℕ → Option ℕ → Option ℕ
lesser_where_known None n = None
lesser_where_known (Some m) None = None
lesser_where_known (Some m) (Some n) = Some (min m n)

-- low less high, at least 0; 0 where high is unknown
abbrev pub less_where_known : ℕ → Option ℕ → ℕ
less_where_known low None = 0
less_where_known low (Some high) = low - high

-- the hint where an item may be held in front
abbrev pub ahead_hint : {A : Type 0} → Head A → Hint → Hint
ahead_hint Unread h = h
ahead_hint (Held x) h = (min (h.0 + 1) (2 ^ 64 - 1), sum_where_known h.1 (Some 1))
ahead_hint Ended h = (0, Some 0)

-- the hints of the four streams, from those of their sides
abbrev pub union_hint : Hint → Hint → Hint
union_hint a b = (max a.0 b.0, sum_where_known a.1 b.1)

abbrev pub intersection_hint : Hint → Hint → Hint
intersection_hint a b = (0, lesser_where_known a.1 b.1)

abbrev pub difference_hint : Hint → Hint → Hint
difference_hint a b = (less_where_known a.0 b.1, a.1)

abbrev pub symmetric_difference_hint : Hint → Hint → Hint
symmetric_difference_hint a b = (max (less_where_known b.0 a.1) (less_where_known a.0 b.1), sum_where_known a.1 b.1)

-- The hint of a stream s is made by `combine` of hints of its two sources, with the items that are held in front of these counted. Where
-- what is to come from the sides is known, and both hints bound what is to come from the sources, it bounds what is to come from s.
pub record IsHintOf {U S T A : Type 0} (sides : U → Sides S T A A) (cmp : A → A → Ordering) (f : List A → List A → List A)
    (combine : Hint → Hint → Hint) (left : S → Count) (firsts : S → Option A → S → Type 0)
    (left' : T → Count) (seconds : T → Option A → T → Type 0) (s : U) (hint : Hint) : Type 0 where
  pub first : Hint
  pub second : Hint
  pub first_kept : IsHint (left (sides s).left.source) first
  pub second_kept : IsHint (left' (sides s).right.source) second
  pub is : hint ≡ combine (ahead_hint (sides s).left.head first) (ahead_hint (sides s).right.head second)
  pub bounds : (xs ys : List A) (v : WillGive firsts (sides s).left xs) (w : WillGive seconds (sides s).right ys)
      → IsStrictlySortedBy cmp xs → IsStrictlySortedBy cmp ys
      → (is_ended (sides s).left.head ≡ false → Bounds first v.rest) → (is_ended (sides s).right.head ≡ false → Bounds second w.rest)
      → Bounds hint (f xs ys)
