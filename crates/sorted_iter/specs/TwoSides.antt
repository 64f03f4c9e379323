-- A stream of two sources: what one call of `next` says.
use Rattle.std.specs.Prelude.{◌≡◌, ◌+◌, ◌≤◌, false, List, [], ◌++◌, Option, IfNone, option_to_list}
use Rattle.std.specs.Option.{option_len}
use Rattle.std.specs.Iterator.{Count, IsFinite, size}
use Rattle.std.specs.declared.cmp.Ordering.{Ordering}
use Rattle.sorted_iter.specs.declared.sides.Sides.{Sides}
use Rattle.sorted_iter.specs.declared.sides.Wants.{Wants}
use Rattle.sorted_iter.specs.Lookahead.{ahead_of, ahead_can, ahead_left, MayFollow, Passes, AheadAscends}

module _ {S T A B : Type 0} where
  -- the sources x and y, of which nothing was read
  abbrev pub sides_of : S → T → Sides S T A B
  sides_of x y = record { left = ahead_of x; right = ahead_of y }

  -- `next` may be called, and both sources end
  abbrev pub sides_can : (S → Type 0) → (S → Count) → (T → Type 0) → (T → Count) → Sides S T A B → Type 0
  sides_can can left can' left' s = ahead_can can s.left × ahead_can can' s.right × IsFinite (ahead_left left s.left)
      × IsFinite (ahead_left left' s.right)

  -- both sides ascend
  abbrev pub sides_ascend : (A → A → Ordering) → (S → Option A → S → Type 0) → (B → B → Ordering) → (T → Option B → T → Type 0)
      → Sides S T A B → Type 0
  sides_ascend cmp firsts cmp' seconds s = AheadAscends cmp firsts s.left × AheadAscends cmp' seconds s.right

module _ {S T A B C : Type 0} (op : List A → List B → List C) (firsts : S → Option A → S → Type 0)
    (seconds : T → Option B → T → Type 0) where
  -- calls of the stream led from s to t and gave zs: what its sources passed by then is us and vs, and whatever may follow,
  -- `op` of all that the sources give is zs and then `op` of what follows
  pub record Gives (s : Sides S T A B) (zs : List C) (t : Sides S T A B) : Type 0 where
    pub us : List A
    pub vs : List B
    pub passed_left : Passes firsts s.left us t.left
    pub passed_right : Passes seconds s.right vs t.right
    pub gave : (xs : List A) (ys : List B) → MayFollow t.left xs → MayFollow t.right ys → op (us ++ xs) (vs ++ ys) ≡ zs ++ op xs ys

  -- nothing is to come from t
  abbrev pub IsSpent : Sides S T A B → Type 0
  IsSpent t = (xs : List A) (ys : List B) → MayFollow t.left xs → MayFollow t.right ys → op xs ys ≡ []

  -- one call of `next`: it answers `None` where nothing is to come
  pub record StepsTwo (s : Sides S T A B) (r : Option C) (t : Sides S T A B) : Type 0 where
    pub went : Gives s (option_to_list r) t
    pub ended : IfNone r (IsSpent t)

-- one call of `next` leaves fewer items, and the stream may be called again
pub record Nears {S T A B C : Type 0} (can : S → Type 0) (left : S → Count) (can' : T → Type 0) (left' : T → Count) (wants : Wants)
    (s : Sides S T A B) (r : Option C) (t : Sides S T A B) : Type 0 where
  pub again : sides_can can left can' left' t
  pub left_falls : size (ahead_left left t.left) ≤ size (ahead_left left s.left)
  pub right_falls : size (ahead_left left' t.right) ≤ size (ahead_left left' s.right)
  pub one_less : size (ahead_left left t.left) + size (ahead_left left' t.right) + option_len r
      ≤ size (ahead_left left s.left) + size (ahead_left left' s.right)
  pub left_less : wants.right ≡ false → size (ahead_left left t.left) + option_len r ≤ size (ahead_left left s.left)
  pub right_less : wants.left ≡ false → size (ahead_left left' t.right) + option_len r ≤ size (ahead_left left' s.right)
