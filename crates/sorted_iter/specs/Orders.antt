-- What a mark says of an iterator, and the lists that iterators give.
use Rattle.std.specs.Prelude.{◌≡◌, ℕ, Bool, true, suc, zero, List, [], ◌++◌, length, ◌≤◌, Option, Some, None}
use Rattle.std.specs.Iterator.{Yields, YieldsThen, AlwaysYields}
use Rattle.std.specs.Iterator.Runs.{Run, SomeRun, EachRunFrom}
use Rattle.std.specs.List.Sorted.{IsStrictlySortedBy}
use Rattle.std.specs.declared.cmp.Ordering.{Ordering}

-- n calls from s answered `None` each, and led to t
abbrev pub Rests : {S A : Type 0} → (S → Option A → S → Type 0) → ℕ → S → S → Type 0
Rests steps zero s t = s ≡ t
Rests {S} steps (suc n) s t = (j : S) × steps s None j × Rests steps n j t

-- an ended iterator stays ended: once `None` has come no call gives an item
pub record StaysEnded {S A : Type 0} (steps : S → Option A → S → Type 0) (s : S) : Type 0 where
  pub ended : (xs : List A) (t : S) (n : ℕ) (u : S) (x : A) (v : S) → YieldsThen steps s xs None t → Rests steps n t u → steps u (Some x) v
      → ⊥

-- the items still to come strictly ascend, and an ended iterator stays ended: once `None` has come no call gives an item
pub record InOrder {S A : Type 0} (cmp : A → A → Ordering) (steps : S → Option A → S → Type 0) (s : S) : Type 0 where
  pub ascends : (xs : List A) (t : S) → Yields steps s xs t → IsStrictlySortedBy cmp xs
  pub stays_ended : (xs : List A) (t : S) (n : ℕ) (u : S) (x : A) (v : S) → YieldsThen steps s xs None t → Rests steps n t u
      → steps u (Some x) v → ⊥

-- at most one item is still to come, and an ended iterator stays ended
pub record AtMostOne {S A : Type 0} (steps : S → Option A → S → Type 0) (s : S) : Type 0 where
  pub one : (xs : List A) (t : S) → Yields steps s xs t → length xs ≤ 1
  pub stays_ended : (xs : List A) (t : S) (n : ℕ) (u : S) (x : A) (v : S) → YieldsThen steps s xs None t → Rests steps n t u
      → steps u (Some x) v → ⊥

-- the items still to come are those of xs: every run of calls from s gives them, and then `None`
pub record GivesList {S A : Type 0} (steps : S → Option A → S → Type 0) (s : S) (xs : List A) : Type 0 where
  pub runs : AlwaysYields steps (λ x. x) s xs

-- zs begins with ys, and has no more where `whole` is true
abbrev pub Begins : {C : Type 0} → Bool → List C → List C → Type 0
Begins {C} whole ys zs = (more : List C) × (zs ≡ ys ++ more) × (whole ≡ true → more ≡ [])

-- p is a run of a stream, and a and b are the runs of its two sources behind it. Whatever may follow the items of a and b, as
-- long as both lists ascend, p has the front of f of the two lists, and all of it where p went on to `None`.
pub record GivesOf {S T U A : Type 0} {steps : U → Option A → U → Type 0} {firsts : S → Option A → S → Type 0}
    {seconds : T → Option A → T → Type 0} (cmp : A → A → Ordering) (f : List A → List A → List A)
    (p : Run steps) (a : Run firsts) (b : Run seconds) : Type 0 where
  pub front : (xs ys : List A) → (a.whole ≡ true → xs ≡ []) → (b.whole ≡ true → ys ≡ []) → IsStrictlySortedBy cmp (a.items ++ xs)
      → IsStrictlySortedBy cmp (b.items ++ ys)
      → Begins p.whole p.items (f (a.items ++ xs) (b.items ++ ys))

module _ {S T U A : Type 0} (cmp : A → A → Ordering) (f : List A → List A → List A) (steps : U → Option A → U → Type 0) (s : U)
    (firsts : S → Option A → S → Type 0) (x : S) (seconds : T → Option A → T → Type 0) (y : T) where
  -- behind each run of the stream s stand runs of its sources x and y, and the stream gives f of what they give
  pub record RunsAre : Type 0 where
    pub behind : EachRunFrom steps s (λ p. SomeRun firsts x (λ a. SomeRun seconds y (λ b. GivesOf cmp f p a b)))

  -- where the items to come from x and y are the ascending lists xs and ys, those to come from the stream s are f xs ys
  abbrev pub ListsAre : Type 0
  ListsAre = (xs ys : List A) → GivesList firsts x xs → GivesList seconds y ys → IsStrictlySortedBy cmp xs → IsStrictlySortedBy cmp ys
      → GivesList steps s (f xs ys)
