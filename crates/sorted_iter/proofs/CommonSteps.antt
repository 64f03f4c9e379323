-- A call of `next_common` on two sides, turn by turn of its loop, in which an item of either side is in hand.
use Rattle.std.proofs.Common.{◌≡◌, false, true, Option, Some, None, refl}
use Rattle.std.specs.Iterator.{Count}
use Rattle.std.specs.declared.cmp.Ordering.{Ordering}
use Rattle.std.specs.declared.cmp.Ordering.TheVariants.{Less, Equal, Greater}
use Rattle.ordered_lists.specs.Walks.{walk}
use Rattle.sorted_iter.specs.declared.ahead.Ahead.{Ahead}
use Rattle.sorted_iter.specs.declared.ahead.Head.TheVariants.{Held}
use Rattle.sorted_iter.specs.declared.sides.Sides.{Sides}
use Rattle.sorted_iter.specs.declared.sides.Wants.{Wants}
use Rattle.sorted_iter.specs.Lookahead.{Takes}
use Rattle.sorted_iter.specs.TwoSides.{StepsTwo, sides_can}
use Rattle.sorted_iter.proofs.TakeLemmas.{takes-again}
use Rattle.sorted_iter.proofs.WalkSteps.{Walked, walked-none, left-ended_past, right-ended_all, less-on, equal-gives, greater-on}

-- of two equal items the left one is wanted, and nothing else
abbrev pub common_alone : Wants
common_alone = record { left = false; both = true; right = false }

-- the turns so far led from s to a state before, and what was taken there, x and y, led to t
pub record InHand {S T A : Type 0} (cmp : A → A → Ordering) (can : S → Type 0) (left : S → Count) (firsts : S → Option A → S → Type 0)
    (can' : T → Type 0) (left' : T → Count) (seconds : T → Option A → T → Type 0) (s : Sides S T A A) (x y : A) (t : Sides S T A A) : Type 0 where
  pub before : Sides S T A A
  pub walked : Walked cmp can left firsts can' left' seconds common_alone s before
  pub took_left : Takes can left firsts before.left (Some x) t.left
  pub took_right : Takes can' left' seconds before.right (Some y) t.right

module _ {S T A : Type 0} {can : S → Type 0} {left : S → Count} {firsts : S → Option A → S → Type 0} {can' : T → Type 0} {left' : T → Count}
    {seconds : T → Option A → T → Type 0} where
  -- before the first turn
  module _ (cmp : A → A → Ordering) {s : Sides S T A A} {x : A} {l : Ahead S A} (k : sides_can can left can' left' s)
      (a : Takes can left firsts s.left (Some x) l) where
    start : Walked cmp can left firsts can' left' seconds common_alone s s
    start = walked-none cmp can left firsts can' left' seconds common_alone s k

    pub in_hand : {y : A} {u : Ahead T A} → Takes can' left' seconds s.right (Some y) u
        → InHand cmp can left firsts can' left' seconds s x y (record { left = l; right = u })
    in_hand b = record { before = s; walked = start; took_left = a; took_right = b }

    pub right-none : {u : Ahead T A} → Takes can' left' seconds s.right None u
        → StepsTwo (walk cmp false true false) firsts seconds s None (record { left = l; right = u })
    right-none b = right-ended_all cmp can left firsts can' left' seconds common_alone start a b refl

  module _ {cmp : A → A → Ordering} {s t : Sides S T A A} {x y : A} (h : InHand cmp can left firsts can' left' seconds s x y t) where
    -- The left item is less: the turn is that of `next`, which holds the right one again.
    less-held : cmp x y ≡ Less
        → Walked cmp can left firsts can' left' seconds common_alone s (record t { right = record t.right { head = Held y } })
    less-held e = less-on cmp can left firsts can' left' seconds common_alone h.walked h.took_left h.took_right refl e refl

    pub less-takes : {z : A} {l : Ahead S A} → cmp x y ≡ Less → Takes can left firsts t.left (Some z) l
        → InHand cmp can left firsts can' left' seconds s z y (record t { left = l })
    less-takes e a = record {
      before = record t { right = record t.right { head = Held y } };
      walked = less-held e;
      took_left = a;
      took_right = takes-again h.took_right;
    }

    pub less-ends : {l : Ahead S A} → cmp x y ≡ Less → Takes can left firsts t.left None l
        → StepsTwo (walk cmp false true false) firsts seconds s None (record t { left = l })
    less-ends e a =
        left-ended_past cmp can left firsts can' left' seconds common_alone (less-held e) a (takes-again h.took_right).passed refl

    -- the two are equal
    pub equal-ends : cmp x y ≡ Equal → StepsTwo (walk cmp false true false) firsts seconds s (Some x) t
    equal-ends e = equal-gives cmp can left firsts can' left' seconds common_alone h.walked h.took_left h.took_right e refl

    -- the right item is less: `next` holds the left one again
    greater-held : cmp x y ≡ Greater
        → Walked cmp can left firsts can' left' seconds common_alone s (record t { left = record t.left { head = Held x } })
    greater-held e = greater-on cmp can left firsts can' left' seconds common_alone h.walked h.took_left h.took_right refl e refl

    pub greater-takes : {z : A} {u : Ahead T A} → cmp x y ≡ Greater → Takes can' left' seconds t.right (Some z) u
        → InHand cmp can left firsts can' left' seconds s x z (record t { right = u })
    greater-takes e b = record {
      before = record t { left = record t.left { head = Held x } };
      walked = greater-held e;
      took_left = takes-again h.took_left;
      took_right = b;
    }

    pub greater-ends : {u : Ahead T A} → cmp x y ≡ Greater → Takes can' left' seconds t.right None u
        → StepsTwo (walk cmp false true false) firsts seconds s None (record t { right = u })
    greater-ends e b = right-ended_all cmp can left firsts can' left' seconds common_alone (greater-held e) (takes-again h.took_left) b refl
