-- The union of many lists in order.
use Rattle.std.specs.Prelude.{◌≡◌, true, List, All, Any, Contains}
use Rattle.std.specs.List.{AllByRecursion}
use Rattle.std.specs.List.Sorted.{IsStrictlySortedBy}
use Rattle.std.specs.declared.cmp.Ordering.{Ordering}
use Rattle.ordered_lists.specs.Lists.{has}

-- m strictly ascends, each item of m is an item of one of the lists, and each item of each list has an equal in m
pub record IsMultiwayUnion {A : Type 0} (cmp : A → A → Ordering) (ls : List (List A)) (m : List A) : Type 0 where
  pub ascends : IsStrictlySortedBy cmp m
  pub from_inputs : AllByRecursion (λ x. Any (λ l. Contains l x) ls) m
  pub covers : All (AllByRecursion (λ x. has cmp m x ≡ true)) ls
