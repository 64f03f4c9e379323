-- The laws of the marks: of the streams of two sources, and of iterators whose states are known.
use Rattle.std.proofs.Common.{◌≡◌, ℕ, suc, zero, Bool, List, [], ◌∷◌, Option, Some, None, subst}
use Rattle.std.specs.Iterator.{Yields}
use Rattle.std.specs.Cmp.{IsTotalOrder}
use Rattle.std.specs.List.{AllByRecursion}
use Rattle.std.specs.List.Sorted.{IsStrictlySortedBy}
use Rattle.std.specs.declared.cmp.Ordering.{Ordering}
use Rattle.std.specs.declared.cmp.Ordering.TheVariants.{Less}
use Rattle.ordered_lists.specs.Walks.{walk}
use Rattle.ordered_lists.proofs.WalkLemmas.{ascends-walk}
use Rattle.sorted_iter.specs.declared.sides.Sides.{Sides}
use Rattle.sorted_iter.specs.Orders.{Rests, InOrder}
use Rattle.sorted_iter.specs.TwoSides.{StepsTwo, sides_ascend}
use Rattle.sorted_iter.specs.TwoSidesLemmas.{Through, through-in_order, two-in_order}

-- a stream that walks along two sides in order is in order
pub walk-in_order : {U S T A : Type 0} (left both right : Bool) {cmp : A → A → Ordering} (firsts : S → Option A → S → Type 0)
    (seconds : T → Option A → T → Type 0) → IsTotalOrder cmp → (sides : U → Sides S T A A) (s : U)
    → sides_ascend cmp firsts cmp seconds (sides s) → InOrder cmp (Through sides (StepsTwo (walk cmp left both right) firsts seconds)) s
walk-in_order left both right {cmp} firsts seconds o sides s h =
    through-in_order sides (StepsTwo (walk cmp left both right) firsts seconds) cmp s
    (two-in_order (walk cmp left both right) firsts seconds (ascends-walk o left both right) (sides s) h.0 h.1)

-- what holds of each state after a `None` holds after every further one
pub over_rests : {S A : Type 0} (steps : S → Option A → S → Type 0) (Over : S → Type 0) → ((s t : S) → steps s None t → Over t)
    → (n : ℕ) (s t : S) → Over s → Rests steps n s t → Over t
over_rests steps Over ends zero s t h e = subst Over e h
over_rests steps Over ends (suc n) s t h e = over_rests steps Over ends n e.0 t (ends s e.0 e.1) e.2

-- An iterator is in order where each item is below all that come after it, which `Below` says of a state, and where `Over` holds of
-- each state after a `None` and of no state from which an item comes.
module _ {S A : Type 0} (cmp : A → A → Ordering) (steps : S → Option A → S → Type 0) (Below : A → S → Type 0) (Over : S → Type 0)
    (lower : (s t : S) (x : A) → steps s (Some x) t → Below x t) (stays : (s t : S) (x b : A) → steps s (Some x) t → Below b s
    → (cmp b x ≡ Less) × Below b t)
    (ends : (s t : S) → steps s None t → Over t) (stops : (s t : S) (x : A) → steps s (Some x) t → Over s → ⊥) where
  all_after : (xs : List A) (s t : S) (b : A) → Below b s → Yields steps s xs t → AllByRecursion (λ y. cmp b y ≡ Less) xs
  all_after [] s t b h e = tt
  all_after (x ∷ xs) s t b h e = let k = stays s e.0 x b e.1 h in (k.0, all_after xs e.0 t b k.1 e.2)

  ascending : (xs : List A) (s t : S) → Yields steps s xs t → IsStrictlySortedBy cmp xs
  unfolding IsStrictlySortedBy
  ascending [] s t e = tt
  ascending (x ∷ xs) s t e = (all_after xs e.0 t x (lower s e.0 x e.1) e.2, ascending xs e.0 t e.2)

  pub in_order-by_bound : (s : S) → InOrder cmp steps s
  in_order-by_bound s = record {
    ascends = λ xs t e. ascending xs s t e;
    stays_ended = λ xs t n u x v e f g. stops u v x g (over_rests steps Over ends n t u (ends e.0 t e.2) f);
  }
