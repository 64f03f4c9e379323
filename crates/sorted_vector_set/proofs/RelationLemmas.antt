-- What is told of two sets by the first item that comes, and by how many items they have.
use Rattle.std.proofs.Common.{◌≡◌, ◌<◌, Bool, true, false, not, ◌&&◌, List, [], ◌∷◌, length, Option, Some, None, is_some, refl, sym, ap, arith}
use Rattle.std.specs.Cmp.{IsTotalOrder}
use Rattle.std.specs.Iterator.{YieldsFirstBy}
use Rattle.std.specs.List.{AllByRecursion, list_all}
use Rattle.std.specs.List.Sorted.{IsStrictlySortedBy}
use Rattle.std.specs.declared.cmp.Ordering.{Ordering}
use Rattle.ordered_lists.specs.Lists.{has}
use Rattle.ordered_lists.proofs.CountLemmas.{as_long_as_distinct}
use Rattle.sorted_iter.proofs.TellLemmas.{is_nil}

-- whether a first item comes
pub first_tells : {S A B : Type 0} (view : A → B) (rest : S → List B) (s t : S) (r : Option A) (answer : Bool) → YieldsFirstBy view rest s r t → is_some r ≡ not answer → answer ≡ is_nil (rest s)
first_tells view rest s t None true h e = sym (ap is_nil h.0)
first_tells view rest s t None false h e = cc
first_tells view rest s t (Some x) true h e = cc
first_tells view rest s t (Some x) false h e = sym (ap is_nil h)

both_true : (a b : Bool) → (a && b) ≡ true → (a ≡ true) × (b ≡ true)
both_true true true e = (refl, refl)
both_true true false e = cc
both_true false b e = cc

all_true : {A : Type 0} (p : A → Bool) (xs : List A) → list_all p xs ≡ true → AllByRecursion (λ x. p x ≡ true) xs
all_true p [] e = tt
all_true p (x ∷ xs) e = let both = both_true (p x) (list_all p xs) e in (both.0, all_true p xs both.1)

-- of more items than ys has, not all have an equal in ys
pub too_many : {A : Type 0} {cmp : A → A → Ordering} → IsTotalOrder cmp → (xs ys : List A) → IsStrictlySortedBy cmp xs → length ys < length xs → false ≡ list_all (has cmp ys) xs
too_many {A} {cmp} o xs ys a more = go (list_all (has cmp ys) xs) refl
  where
    go : (b : Bool) → list_all (has cmp ys) xs ≡ b → false ≡ b
    go true e = let few = as_long_as_distinct o xs ys a (all_true (has cmp ys) xs e) in absurd (omega (arith, more, few))
    go false e = refl
