-- What the lazy set operations on two sets have still to give.
use Rattle.std.specs.Prelude.{◌≡◌, ◌^◌, ◌<◌, true, List, [], ◌++◌, map, length}
use Rattle.std.specs.declared.cmp.Ordering.{Ordering}
use Rattle.std.specs.declared.slice.Iter.{Iter}
use Rattle.std.specs.Borrow.{Bor}
use Rattle.std.specs.List.Sorted.{IsStrictlySortedBy}
use Rattle.std.specs.Map.Iter.{deref}
use Rattle.std.specs.Slice.Iter.{iter_rest}
use Rattle.ordered_lists.specs.Lists.{union, intersection, difference, symmetric_difference}
use Rattle.sorted_iter.specs.declared.ahead.Ahead.{Ahead}
use Rattle.sorted_iter.specs.declared.sides.Sides.{Sides}
use Rattle.sorted_iter.specs.Lookahead.{pending, is_ended}

-- what is left of the set itself, and of the other one
pub record BothLeft (T : Type 0) : Type 0 where
  pub own : List T
  pub other : List T

-- which items are to come, in ascending order
module _ {T : Type 0} (cmp : T → T → Ordering) where
  -- of two equal items that of the other set
  abbrev pub union_to_come : BothLeft T → List T
  union_to_come s = union cmp s.other s.own

  abbrev pub intersection_to_come : BothLeft T → List T
  intersection_to_come s = intersection cmp s.own s.other

  abbrev pub difference_to_come : BothLeft T → List T
  difference_to_come s = difference cmp s.own s.other

  abbrev pub symmetric_difference_to_come : BothLeft T → List T
  symmetric_difference_to_come s = symmetric_difference cmp s.own s.other

module _ {T : Type 0} where
  -- what is left of one side of a walk: the item that is held in front, and the items that weren't read
  abbrev pub left_of : Ahead (Iter T) (Bor T) → List T
  left_of h = map deref (pending h.head) ++ iter_rest h.source

  -- a side whose items are in order
  pub record IsSide (cmp : T → T → Ordering) (h : Ahead (Iter T) (Bor T)) : Type 0 where
    pub ascends : IsStrictlySortedBy cmp (left_of h)
    pub fits : length (left_of h) < 2 ^ 64
    pub over : is_ended h.head ≡ true → iter_rest h.source ≡ []

  abbrev pub AreSides : (T → T → Ordering) → Sides (Iter T) (Iter T) (Bor T) (Bor T) → Type 0
  AreSides cmp s = IsSide cmp s.left × IsSide cmp s.right
