-- Whether two lists share an item, and whether one is within the other.
use Rattle.std.specs.Prelude.{◌≡◌, Bool, true, not, List, [], ◌++◌, Option}
use Rattle.std.specs.Iterator.Runs.{Run, SomeRun}
use Rattle.std.specs.List.{list_all}
use Rattle.std.specs.List.Sorted.{IsStrictlySortedBy}
use Rattle.std.specs.declared.cmp.Ordering.{Ordering}
use Rattle.ordered_lists.specs.Lists.{has}
use Rattle.sorted_iter.specs.Orders.{GivesList}

module _ {A : Type 0} (cmp : A → A → Ordering) where
  -- no item of xs has an equal in ys
  abbrev pub are_disjoint : List A → List A → Bool
  are_disjoint xs ys = list_all (λ x. not (has cmp ys x)) xs

  -- each item of xs has an equal in ys
  abbrev pub is_within : List A → List A → Bool
  is_within xs ys = list_all (has cmp ys) xs

  -- each item of ys has an equal in xs
  abbrev pub is_around : List A → List A → Bool
  is_around xs ys = is_within ys xs

-- a and b are runs of two sources, and the answer is what f tells of them and of whatever may follow their items, as long as both
-- lists ascend
pub record TellsOf {S T A : Type 0} {firsts : S → Option A → S → Type 0} {seconds : T → Option A → T → Type 0} (cmp : A → A → Ordering)
    (f : List A → List A → Bool) (answer : Bool) (a : Run firsts) (b : Run seconds) : Type 0 where
  pub tells : (xs ys : List A) → (a.whole ≡ true → xs ≡ []) → (b.whole ≡ true → ys ≡ []) → IsStrictlySortedBy cmp (a.items ++ xs)
      → IsStrictlySortedBy cmp (b.items ++ ys)
      → answer ≡ f (a.items ++ xs) (b.items ++ ys)

module _ {S T A : Type 0} (cmp : A → A → Ordering) (f : List A → List A → Bool) (answer : Bool) (firsts : S → Option A → S → Type 0) (x : S)
    (seconds : T → Option A → T → Type 0) (y : T) where
  -- runs of the sources x and y were taken, and the answer is what f tells of them, whatever may follow
  abbrev pub TellsOfRuns : Type 0
  TellsOfRuns = SomeRun firsts x (λ a. SomeRun seconds y (λ b. TellsOf cmp f answer a b))

  -- where the items to come from x and y are the ascending lists xs and ys, the answer is what f tells of these
  abbrev pub TellsOfLists : Type 0
  TellsOfLists = (xs ys : List A) → GivesList firsts x xs → GivesList seconds y ys → IsStrictlySortedBy cmp xs → IsStrictlySortedBy cmp ys
      → answer ≡ f xs ys
