-- The hints of the joins.
use Rattle.std.specs.Prelude.{◌≡◌, false, List, Option}
use Rattle.std.specs.Iterator.{Count}
use Rattle.std.specs.List.Sorted.{IsStrictlySortedBy}
use Rattle.std.specs.declared.cmp.Ordering.{Ordering}
use Rattle.ordered_lists.specs.Lists.{by_key}
use Rattle.sorted_iter.specs.declared.sides.Sides.{Sides}
use Rattle.sorted_iter.specs.Hints.{Hint, IsHint, Bounds, ahead_hint}
use Rattle.sorted_iter.specs.Lookahead.{is_ended, WillGive}

-- the hints of a left and of a right join, from those of their sides; those of a join and of an outer join are those of an
-- intersection and of a union
abbrev pub left_hint : Hint → Hint → Hint
left_hint a b = a

abbrev pub right_hint : Hint → Hint → Hint
right_hint a b = b

-- The hint of a join s is made by `combine` of hints of its two sources, with the pairs that are held in front of these counted. Where
-- what is to come from the sides is known, and both hints bound what is to come from the sources, it bounds what is to come from s.
pub record IsJoinHint {U S T K V W C : Type 0} (sides : U → Sides S T (K × V) (K × W)) (cmp : K → K → Ordering)
    (f : List (K × V) → List (K × W) → List C) (combine : Hint → Hint → Hint) (left : S → Count) (firsts : S → Option (K × V) → S → Type 0)
    (left' : T → Count) (seconds : T → Option (K × W) → T → Type 0) (s : U) (hint : Hint) : Type 0 where
  pub first : Hint
  pub second : Hint
  pub first_kept : IsHint (left (sides s).left.source) first
  pub second_kept : IsHint (left' (sides s).right.source) second
  pub is : hint ≡ combine (ahead_hint (sides s).left.head first) (ahead_hint (sides s).right.head second)
  pub bounds : (xs : List (K × V)) (ys : List (K × W)) (v : WillGive firsts (sides s).left xs) (w : WillGive seconds (sides s).right ys)
      → IsStrictlySortedBy (by_key cmp) xs → IsStrictlySortedBy (by_key cmp) ys
      → (is_ended (sides s).left.head ≡ false → Bounds first v.rest) → (is_ended (sides s).right.head ≡ false → Bounds second w.rest)
      → Bounds hint (f xs ys)
