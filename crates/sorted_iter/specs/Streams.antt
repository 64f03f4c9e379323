-- The streams of this crate, as their contracts see them.
use Rattle.std.specs.Prelude.{true, false, Option}
use Rattle.std.specs.declared.cmp.Ordering.{Ordering}
use Rattle.ordered_lists.specs.Walks.{walk}
use Rattle.sorted_iter.specs.declared.sides.Sides.{Sides}
use Rattle.sorted_iter.specs.declared.streams.Union.{Union}
use Rattle.sorted_iter.specs.declared.streams.Intersection.{Intersection}
use Rattle.sorted_iter.specs.declared.streams.Difference.{Difference}
use Rattle.sorted_iter.specs.declared.streams.SymmetricDifference.{SymmetricDifference}
use Rattle.sorted_iter.specs.declared.marks.AssumeSortedByItem.{AssumeSortedByItem}
use Rattle.sorted_iter.specs.TwoSides.{StepsTwo}

module _ {S T A B : Type 0} where
  abbrev pub union_sides : Union S T A B → Sides S T A B
  union_sides s = s.sides

  abbrev pub intersection_sides : Intersection S T A B → Sides S T A B
  intersection_sides s = s.sides

  abbrev pub difference_sides : Difference S T A B → Sides S T A B
  difference_sides s = s.sides

  abbrev pub symmetric_difference_sides : SymmetricDifference S T A B → Sides S T A B
  symmetric_difference_sides s = s.sides

module _ {S T A : Type 0} (cmp : A → A → Ordering) (firsts : S → Option A → S → Type 0) (seconds : T → Option A → T → Type 0) where
  abbrev pub union_steps : Union S T A A → Option A → Union S T A A → Type 0
  union_steps s r t = StepsTwo (walk cmp true true true) firsts seconds (union_sides s) r (union_sides t)

  abbrev pub intersection_steps : Intersection S T A A → Option A → Intersection S T A A → Type 0
  intersection_steps s r t = StepsTwo (walk cmp false true false) firsts seconds (intersection_sides s) r (intersection_sides t)

  abbrev pub difference_steps : Difference S T A A → Option A → Difference S T A A → Type 0
  difference_steps s r t = StepsTwo (walk cmp true false false) firsts seconds (difference_sides s) r (difference_sides t)

  abbrev pub symmetric_difference_steps : SymmetricDifference S T A A → Option A → SymmetricDifference S T A A → Type 0
  symmetric_difference_steps s r t = StepsTwo (walk cmp true false true) firsts seconds (symmetric_difference_sides s) r
      (symmetric_difference_sides t)

-- the iterator inside
abbrev pub assumed_source : {S : Type 0} → AssumeSortedByItem S → S
assumed_source s = s.source

abbrev pub assumed_steps : {S A : Type 0} → (S → Option A → S → Type 0) → AssumeSortedByItem S → Option A → AssumeSortedByItem S → Type 0
assumed_steps steps s r t = steps (assumed_source s) r (assumed_source t)
