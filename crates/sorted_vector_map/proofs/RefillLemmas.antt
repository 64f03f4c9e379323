-- Other values keep the keys, their order and their number.
use mathlib.Core.Path.{◌≡◌, refl, ap}
use native.Mathlib.Omega.{arith}
use Prim.Native.Nat.{suc}
use mathlib.Core.List.{List, [], ◌∷◌, map}
use lib.ListN.{length}
use Rattle.std.specs.declared.cmp.Ordering.{Ordering}
use Rattle.std.specs.declared.cmp.Ordering.TheVariants.{Less}
use Rattle.std.specs.List.{AllByRecursion}
use Rattle.std.specs.List.Sorted.{IsStrictlySortedBy}
use Rattle.ordered_lists.specs.Lists.{by_key}
use Rattle.sorted_vector_map.specs.Refilled.{with_values}

module _ {K V : Type 0} where
  pub keys-with_values : (ps : List (K × V)) (xs : List V) → map (λ p. p.0) (with_values ps xs) ≡ map (λ p. p.0) ps
  keys-with_values [] xs = refl
  keys-with_values (p ∷ ps) [] = refl
  keys-with_values (p ∷ ps) (x ∷ xs) = ap (λ l. p.0 ∷ l) (keys-with_values ps xs)

  pub length-with_values : (ps : List (K × V)) (xs : List V) → length (with_values ps xs) ≡ length ps
  length-with_values [] xs = refl
  length-with_values (p ∷ ps) [] = refl
  length-with_values (p ∷ ps) (x ∷ xs) = ap suc (length-with_values ps xs)

  pub values-with_values : (ps : List (K × V)) (xs : List V) → length xs ≡ length ps → map (λ p. p.1) (with_values ps xs) ≡ xs
  values-with_values [] [] e = refl
  values-with_values [] (x ∷ xs) e = absurd (omega arith)
  values-with_values (p ∷ ps) [] e = absurd (omega arith)
  values-with_values (p ∷ ps) (x ∷ xs) e = ap (λ l. x ∷ l) (values-with_values ps xs (omega arith))

module _ {K V : Type 0} (cmp : K → K → Ordering) where
  below-with_values : (p : K × V) (ps : List (K × V)) (xs : List V) → AllByRecursion (λ q. cmp p.0 q.0 ≡ Less) ps → AllByRecursion (λ q. cmp p.0 q.0 ≡ Less) (with_values ps xs)
  below-with_values p [] xs below = below
  below-with_values p (q ∷ ps) [] below = below
  below-with_values p (q ∷ ps) (x ∷ xs) below = (below.0, below-with_values p ps xs below.1)

  pub ascending-with_values : (ps : List (K × V)) (xs : List V) → IsStrictlySortedBy (by_key cmp) ps → IsStrictlySortedBy (by_key cmp) (with_values ps xs)
  unfolding IsStrictlySortedBy
  ascending-with_values [] xs ascending = ascending
  ascending-with_values (p ∷ ps) [] ascending = ascending
  ascending-with_values (p ∷ ps) (x ∷ xs) ascending = (below-with_values p ps xs ascending.0, ascending-with_values ps xs ascending.1)
