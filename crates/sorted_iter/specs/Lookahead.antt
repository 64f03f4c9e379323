-- A source in front of which an item may be held.
use Rattle.std.specs.Prelude.{◌≡◌, ◌+◌, ◌≤◌, ◌⊎◌, Bool, true, false, List, [], ◌∷◌, ◌++◌, Option, Some, None, MatchOption, option_to_list}
use Rattle.std.specs.Option.{option_len}
use Rattle.std.specs.Iterator.{Count, IsFinite, size, at_most, count_map, AlwaysYields}
use Rattle.std.specs.List.Sorted.{IsStrictlySortedBy}
use Rattle.std.specs.declared.cmp.Ordering.{Ordering}
use Rattle.sorted_iter.specs.declared.ahead.Ahead.{Ahead}
use Rattle.sorted_iter.specs.declared.ahead.Head.{Head}
use Rattle.sorted_iter.specs.declared.ahead.Head.TheVariants.{Unread, Held, Ended}

-- the item that is held, as a list
abbrev pub pending : {A : Type 0} → Head A → List A
pending Unread = []
pending (Held x) = x ∷ []
pending Ended = []

abbrev pub is_ended : {A : Type 0} → Head A → Bool
is_ended Unread = false
is_ended (Held x) = false
is_ended Ended = true

-- how many items are left at most, where the source has `left`
abbrev pub left_behind : {A : Type 0} → Head A → Count → Count
left_behind Unread left = left
left_behind (Held x) left = count_map (λ n. n + 1) left
left_behind Ended left = at_most 0

-- Calls led from the state s to t and gave xs. `before` and `after` say whether `None` had come by then; once it has come there is no call.
abbrev pub Reads : {S A : Type 0} → (S → Option A → S → Type 0) → Bool → S → List A → Bool → S → Type 0
Reads steps before s [] after t = ((before ≡ after) × (s ≡ t)) ⊎ ((before ≡ false) × (after ≡ true) × steps s None t)
Reads {S} steps before s (x ∷ xs) after t = (before ≡ false) × (j : S) × steps s (Some x) j × Reads steps false j xs after t

module _ {S A : Type 0} where
  -- the source x, of which nothing was read
  abbrev pub ahead_of : S → Ahead S A
  ahead_of x = record { source = x; head = Unread }

  abbrev pub ahead_can : (S → Type 0) → Ahead S A → Type 0
  ahead_can can h = is_ended h.head ≡ false → can h.source

  abbrev pub ahead_left : (S → Count) → Ahead S A → Count
  ahead_left left h = left_behind h.head (left h.source)

  -- t is s with the item x held
  abbrev pub PutsBack : Ahead S A → A → Ahead S A → Type 0
  PutsBack s x t = t ≡ record s { head = Held x }

  -- xs may be all that comes from h on
  pub record MayFollow (h : Ahead S A) (xs : List A) : Type 0 where
    pub rest : List A
    pub is : xs ≡ pending h.head ++ rest
    pub at_end : is_ended h.head ≡ true → rest ≡ []

  -- us were passed between s and t
  pub record Passes (steps : S → Option A → S → Type 0) (s : Ahead S A) (us : List A) (t : Ahead S A) : Type 0 where
    pub read : List A
    pub calls : Reads steps (is_ended s.head) s.source read (is_ended t.head) t.source
    pub items : pending s.head ++ read ≡ us ++ pending t.head

  -- `take` answered r: it passed r, and no item is held after it
  pub record Takes (can : S → Type 0) (left : S → Count) (steps : S → Option A → S → Type 0) (s : Ahead S A) (r : Option A)
      (t : Ahead S A) : Type 0 where
    pub passed : Passes steps s (option_to_list r) t
    pub head : MatchOption r (t.head ≡ Ended) (λ _. t.head ≡ Unread)
    pub callable : ahead_can can t
    pub finite : IsFinite (ahead_left left s) → IsFinite (ahead_left left t)
    pub counted : IsFinite (ahead_left left s) → size (ahead_left left t) + option_len r ≤ size (ahead_left left s)

  -- the items that come from h on strictly ascend
  pub record AheadAscends (cmp : A → A → Ordering) (steps : S → Option A → S → Type 0) (h : Ahead S A) : Type 0 where
    pub ascends : (us : List A) (t : Ahead S A) → Passes steps h us t → IsStrictlySortedBy cmp (us ++ pending t.head)

-- all the items to come from h on are xs
pub record WillGive {S A : Type 0} (steps : S → Option A → S → Type 0) (h : Ahead S A) (xs : List A) : Type 0 where
  pub rest : List A
  pub is : xs ≡ pending h.head ++ rest
  pub at_end : is_ended h.head ≡ true → rest ≡ []
  pub runs : is_ended h.head ≡ false → AlwaysYields steps (λ x. x) h.source rest
