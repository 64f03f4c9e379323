-- Lists that are written out: a test, which computes, says whether they ascend.
use Rattle.std.proofs.Common.{◌≡◌, Bool, true, false, cond, List, [], ◌∷◌, refl, true≢false, sym}
use Rattle.std.specs.List.{AllByRecursion}
use Rattle.std.specs.List.Sorted.{IsStrictlySortedBy}
use Rattle.std.specs.Ordering.{is_lt}
use Rattle.std.specs.declared.cmp.Ordering.{Ordering}
use Rattle.std.specs.declared.cmp.Ordering.TheVariants.{Less, Equal, Greater}

module _ {A : Type 0} (cmp : A → A → Ordering) where
  abbrev pub below_all : A → List A → Bool
  below_all x [] = true
  below_all x (y ∷ ys) = cond (is_lt (cmp x y)) (below_all x ys) false

  abbrev pub ascends : List A → Bool
  ascends [] = true
  ascends (x ∷ xs) = cond (below_all x xs) (ascends xs) false

  parts : (a b : Bool) → cond a b false ≡ true → (a ≡ true) × (b ≡ true)
  parts true b h = (refl, h)
  parts false b h = absurd (true≢false (sym h))

  less : (r : Ordering) → is_lt r ≡ true → r ≡ Less
  less Less h = refl
  less Equal h = absurd (true≢false (sym h))
  less Greater h = absurd (true≢false (sym h))

  all_below : (x : A) (ys : List A) → below_all x ys ≡ true → AllByRecursion (λ y. cmp x y ≡ Less) ys
  all_below x [] h = tt
  all_below x (y ∷ ys) h = let k = parts (is_lt (cmp x y)) (below_all x ys) h in (less (cmp x y) k.0, all_below x ys k.1)

  pub sorted-literal : (xs : List A) → ascends xs ≡ true → IsStrictlySortedBy cmp xs
  unfolding IsStrictlySortedBy
  sorted-literal [] h = tt
  sorted-literal (x ∷ xs) h = let k = parts (below_all x xs) (ascends xs) h in (all_below x xs k.0, sorted-literal xs k.1)

pub ruleset literals = (sorted-literal)
