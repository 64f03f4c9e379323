use Rattle.std.proofs.Common.{◌≡◌, List, [], ◌∷◌, refl, arith, sym, ◌∙◌}
use Rattle.std.specs.Prelude.{ℤ, pos, ◌+ℤ◌, ◌≤ℤ◌, ◌<ℤ◌, Bool, true, false, is_some, Some, if◌then◌else◌}
use Rattle.std.specs.List.{AllByRecursion}
use Rattle.std.specs.List.Sorted.{IsStrictlySortedBy}
use Rattle.std.specs.declared.cmp.Ordering.{Ordering}
use Rattle.std.specs.declared.cmp.Ordering.TheVariants.{Less}
use Rattle.std.specs.Ordering.{int_cmp, is_eq}
use Rattle.std.proofs.lemmas.Int.{ints}
use Rattle.element_core.specs.Numbering.{Numbering, IsNumbering}
use Rattle.ordered_lists.specs.Lists.{find, has}
use Rattle.range_map.specs.Sweep.{numbers_of}
use Rattle.cut_points.specs.Cuts.{IsAscending}

less_of : (a b : ℤ) → int_cmp a b ≡ Less → a <ℤ b
less_of a b e = grind (arith, ints)

module _ {T : Type 0} (cmp : T → T → Ordering) (n : Numbering T) (law : IsNumbering cmp n) where
  -- ---- strictly sorted items have ascending numbers

  bounds : (x : T) (xs : List T) → n.IsValue x → AllByRecursion n.IsValue xs → AllByRecursion (λ y. cmp x y ≡ Less) xs → AllByRecursion (λ y. (n.number x +ℤ pos 1) ≤ℤ n.number y) xs
  bounds x [] v vs s = tt
  bounds x (y ∷ ys) v vs s =
      let less : n.number x <ℤ n.number y = less_of (n.number x) (n.number y) (sym (law.order x y v vs.0) ∙ s.0) in
      (omega (arith, ints), bounds x ys v vs.1 s.1)

  ascends : (lo : ℤ) (xs : List T) → AllByRecursion n.IsValue xs → AllByRecursion (λ y. lo ≤ℤ n.number y) xs → IsStrictlySortedBy cmp xs → IsAscending lo n.greatest (numbers_of n xs)
  unfolding IsStrictlySortedBy
  ascends lo [] v b s = tt
  ascends lo (x ∷ xs) v b s = (b.0, law.high x v.0, ascends (n.number x +ℤ pos 1) xs v.1 (bounds x xs v.0 v.1 s.0) s.1)

  from_least : (xs : List T) → AllByRecursion n.IsValue xs → AllByRecursion (λ y. n.least ≤ℤ n.number y) xs
  from_least [] v = tt
  from_least (x ∷ xs) v = (law.low x v.0, from_least xs v.1)

  pub sorted_ascends : (xs : List T) → AllByRecursion n.IsValue xs → IsStrictlySortedBy cmp xs → IsAscending n.least n.greatest (numbers_of n xs)
  sorted_ascends xs v s = ascends n.least xs v (from_least xs v) s

  -- ---- an item is among others where its number is among theirs

  pub has_at : (xs : List T) (k : T) → AllByRecursion n.IsValue xs → n.IsValue k → has cmp xs k ≡ has int_cmp (numbers_of n xs) (n.number k)
  has_at [] k v w = refl
  has_at (x ∷ xs) k v w = rw (law.order x k v.0 w) (at (has_at xs k v.1 w) (is_eq (int_cmp (n.number x) (n.number k))))
    where
      at : has cmp xs k ≡ has int_cmp (numbers_of n xs) (n.number k) → (b : Bool)
          → is_some (if b then Some x else find cmp xs k) ≡ is_some (if b then Some (n.number x) else find int_cmp (numbers_of n xs) (n.number k))
      at ih true = refl
      at ih false = ih
