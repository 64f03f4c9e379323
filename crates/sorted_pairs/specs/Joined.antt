-- What a join makes of the runs of its two sides, and of their lists.
use Rattle.std.specs.Prelude.{◌≡◌, true, List, [], ◌++◌, Option}
use Rattle.std.specs.Iterator.Runs.{Run, SomeRun, EachRunFrom}
use Rattle.std.specs.List.Sorted.{IsStrictlySortedBy}
use Rattle.std.specs.declared.cmp.Ordering.{Ordering}
use Rattle.ordered_lists.specs.Lists.{by_key}
use Rattle.sorted_iter.specs.Orders.{Begins, GivesList}

-- p is a run of a join, and a and b are the runs of its two sides behind it. Whatever may follow the items of a and b, as long as the
-- keys of both lists ascend, p has the front of f of the two lists, and all of it where p went on to `None`.
pub record GivesJoinOf {S T U K V W C : Type 0} {steps : U → Option C → U → Type 0} {firsts : S → Option (K × V) → S → Type 0}
    {seconds : T → Option (K × W) → T → Type 0} (cmp : K → K → Ordering)
    (f : List (K × V) → List (K × W) → List C) (p : Run steps) (a : Run firsts) (b : Run seconds) : Type 0 where
  pub front : (xs : List (K × V)) (ys : List (K × W)) → (a.whole ≡ true → xs ≡ []) → (b.whole ≡ true → ys ≡ [])
      → IsStrictlySortedBy (by_key cmp) (a.items ++ xs) → IsStrictlySortedBy (by_key cmp) (b.items ++ ys)
      → Begins p.whole p.items (f (a.items ++ xs) (b.items ++ ys))

module _ {S T U K V W C : Type 0} (cmp : K → K → Ordering) (f : List (K × V) → List (K × W) → List C) (steps : U → Option C → U → Type 0)
    (s : U) (firsts : S → Option (K × V) → S → Type 0) (x : S)
    (seconds : T → Option (K × W) → T → Type 0) (y : T) where
  -- behind each run of the join s stand runs of its sides x and y, and the join gives f of what they give
  pub record JoinsRuns : Type 0 where
    pub behind : EachRunFrom steps s (λ p. SomeRun firsts x (λ a. SomeRun seconds y (λ b. GivesJoinOf cmp f p a b)))

  -- where the pairs to come from x and y are the lists xs and ys, whose keys ascend, those to come from the join s are f xs ys
  abbrev pub JoinsLists : Type 0
  JoinsLists = (xs : List (K × V)) (ys : List (K × W)) → GivesList firsts x xs → GivesList seconds y ys → IsStrictlySortedBy (by_key cmp) xs
      → IsStrictlySortedBy (by_key cmp) ys → GivesList steps s (f xs ys)
