-- Copies of iterators and of streams.
use Rattle.std.specs.Prelude.{◌≡◌, Bool, true, List, Option}
use Rattle.std.specs.Iterator.{Count, IsFinite, DrainsIf}
use Rattle.std.specs.List.{AllZip}
use Rattle.std.specs.List.Sorted.{IsStrictlySortedBy}
use Rattle.std.specs.declared.cmp.Ordering.{Ordering}
use Rattle.sorted_iter.specs.declared.ahead.Ahead.{Ahead}
use Rattle.sorted_iter.specs.declared.ahead.Head.{Head}
use Rattle.sorted_iter.specs.declared.ahead.Head.TheVariants.{Unread, Held, Ended}
use Rattle.sorted_iter.specs.declared.sides.Sides.{Sides}
use Rattle.sorted_iter.specs.Orders.{StaysEnded, GivesList}
use Rattle.sorted_iter.specs.Lookahead.{WillGive}
use Rattle.sorted_iter.specs.TwoSides.{sides_can, sides_ascend}

-- t gives what s gives: it may be called where s may, it ends and stays ended where s does, and each run of t is one of s
pub record GoesAlike {S A : Type 0} (can : S → Type 0) (left : S → Count) (steps : S → Option A → S → Type 0) (s t : S) : Type 0 where
  pub callable : can s → can t
  pub finite : IsFinite (left s) → IsFinite (left t)
  pub ends : StaysEnded steps s → StaysEnded steps t
  pub same : (xs : List A) (whole : Bool) → DrainsIf steps (whole ≡ true) t xs → DrainsIf steps (whole ≡ true) s xs

-- each clone of an iterator gives what the iterator gives
pub record ClonesGoAlike {S A : Type 0} (clones : S → S → Type 0) (can : S → Type 0) (left : S → Count)
    (steps : S → Option A → S → Type 0) : Type 0 where
  pub alike : (s t : S) → clones s t → GoesAlike can left steps s t

-- what is held in k is a clone of what is held in h
abbrev pub IsHeadClone : {A : Type 0} → (A → A → Type 0) → Head A → Head A → Type 0
IsHeadClone clones Unread k = k ≡ Unread
IsHeadClone {A} clones (Held x) k = (y : A) × clones x y × (k ≡ Held y)
IsHeadClone clones Ended k = k ≡ Ended

-- the source of t is a clone of that of s, and so is what is held
abbrev pub IsAheadClone : {S A : Type 0} → (S → S → Type 0) → (A → A → Type 0) → Ahead S A → Ahead S A → Type 0
IsAheadClone sources items s t = sources s.source t.source × IsHeadClone items s.head t.head

-- the stream t is a copy of the stream s, of which `sides` are the two sides: it may be called and is in order where s is, and
-- where what is to come from the sides of s is known, what is to come from t is equal, item by item, to what is to come from s
pub record IsCopy {U S T A : Type 0} (sides : U → Sides S T A A) (cmp : A → A → Ordering) (eq : A → A → Bool) (f : List A → List A → List A)
    (can : S → Type 0) (left : S → Count) (firsts : S → Option A → S → Type 0)
    (can' : T → Type 0) (left' : T → Count) (seconds : T → Option A → T → Type 0) (steps : U → Option A → U → Type 0)
    (s t : U) : Type 0 where
  pub callable : sides_can can left can' left' (sides s) → sides_can can left can' left' (sides t)
  pub in_order : sides_ascend cmp firsts cmp seconds (sides s) → sides_ascend cmp firsts cmp seconds (sides t)
  pub lists : (xs ys : List A) → WillGive firsts (sides s).left xs → WillGive seconds (sides s).right ys → IsStrictlySortedBy cmp xs
      → IsStrictlySortedBy cmp ys
      → GivesList steps s (f xs ys) × ((zs : List A) × AllZip (λ x z. eq z x ≡ true) (f xs ys) zs × GivesList steps t zs)
