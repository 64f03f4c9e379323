-- What holds of the definitions of this crate.
use Rattle.std.specs.Prelude.{◌≡◌, List}
use Rattle.std.specs.declared.cmp.Ordering.{Ordering}
use Rattle.std.specs.List.Sorted.{IsStrictlySortedBy}
use Rattle.ordered_lists.specs.Lists.{find, add, set, union, intersection, difference, symmetric_difference}

-- placing an item keeps the order, in either way
abbrev pub PlacingAscends : {A : Type 0} → (A → A → Ordering) → Type 0
PlacingAscends {A} cmp = (xs : List A) (x : A) → IsStrictlySortedBy cmp xs
    → IsStrictlySortedBy cmp (add cmp xs x) × IsStrictlySortedBy cmp (set cmp xs x)

-- the set operations of lists in order give lists in order
abbrev pub OperationsAscend : {A : Type 0} → (A → A → Ordering) → Type 0
OperationsAscend {A} cmp = (xs ys : List A) → IsStrictlySortedBy cmp xs → IsStrictlySortedBy cmp ys
    → IsStrictlySortedBy cmp (union cmp xs ys) × IsStrictlySortedBy cmp (intersection cmp xs ys)
    × IsStrictlySortedBy cmp (difference cmp xs ys) × IsStrictlySortedBy cmp (symmetric_difference cmp xs ys)

-- a list in order is determined by what is found in it
abbrev pub FoundAlikeIsOne : {A : Type 0} → (A → A → Ordering) → Type 0
FoundAlikeIsOne {A} cmp = (xs ys : List A) → IsStrictlySortedBy cmp xs → IsStrictlySortedBy cmp ys
    → ((k : A) → find cmp xs k ≡ find cmp ys k) → xs ≡ ys
