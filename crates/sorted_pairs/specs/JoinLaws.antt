-- The laws of the mark of the four joins.
use Rattle.std.proofs.Common.{List, Option, sym, subst}
use Rattle.std.specs.Cmp.{IsTotalOrder}
use Rattle.std.specs.List.Sorted.{IsStrictlySortedBy}
use Rattle.std.specs.declared.cmp.Ordering.{Ordering}
use Rattle.ordered_lists.specs.Lists.{by_key}
use Rattle.sorted_iter.specs.declared.sides.Sides.{Sides}
use Rattle.sorted_iter.specs.GoesOn.{ahead-goes_on}
use Rattle.sorted_iter.specs.Orders.{InOrder}
use Rattle.sorted_iter.specs.TwoSides.{StepsTwo}
use Rattle.sorted_iter.specs.TwoSidesLemmas.{Through, through-in_order, two-in_order}
use Rattle.sorted_pairs.specs.JoinStreams.{keys_ascend}
use Rattle.sorted_pairs.specs.MatchLaws.{join-walk, join-ascends, left_join-walk, left_join-ascends, right_join-walk, right_join-ascends, outer_join-walk, outer_join-ascends}
use Rattle.sorted_pairs.specs.Matches.{join_walk, left_join_walk, right_join_walk, outer_join_walk}

-- a join that takes lists whose keys ascend to one whose keys ascend is in order where both its sides are
module _ {U S T K V W X : Type 0} (cmp : K → K → Ordering) (op : List (K × V) → List (K × W) → List (K × X)) (firsts : S → Option (K × V)
    → S → Type 0) (seconds : T → Option (K × W) → T → Type 0) (sides : U → Sides S T (K × V) (K × W)) where
  joined-in_order : ((xs : List (K × V)) (ys : List (K × W)) → IsStrictlySortedBy (by_key cmp) xs → IsStrictlySortedBy (by_key cmp) ys
      → IsStrictlySortedBy (by_key cmp) (op xs ys)) → (s : U) → keys_ascend cmp firsts seconds (sides s)
      → InOrder (by_key cmp) (Through sides (StepsTwo op firsts seconds)) s
  joined-in_order keeps s h = through-in_order sides (StepsTwo op firsts seconds) (by_key cmp) s
      (two-in_order op firsts seconds keeps (sides s) h.0 h.1)

  pub joined-goes_on : (s t : U) (r : Option (K × X)) → keys_ascend cmp firsts seconds (sides s)
      → StepsTwo op firsts seconds (sides s) r (sides t) → keys_ascend cmp firsts seconds (sides t)
  joined-goes_on s t r h e = (
    ahead-goes_on (by_key cmp) firsts (sides s).left (sides t).left e.went.us e.went.passed_left h.0,
    ahead-goes_on (by_key cmp) seconds (sides s).right (sides t).right e.went.vs e.went.passed_right h.1,
  )

module _ {U S T K V W : Type 0} {cmp : K → K → Ordering} (o : IsTotalOrder cmp) (firsts : S → Option (K × V) → S → Type 0)
    (seconds : T → Option (K × W) → T → Type 0) (sides : U → Sides S T (K × V) (K × W)) (s : U)
    (h : keys_ascend cmp firsts seconds (sides s)) where
  pub join-in_order : InOrder (by_key cmp) (Through sides (StepsTwo (join_walk cmp) firsts seconds)) s
  join-in_order = joined-in_order cmp (join_walk cmp) firsts seconds sides
      (λ xs ys a b. subst (IsStrictlySortedBy (by_key cmp)) (sym (join-walk o xs ys a b)) (join-ascends o xs ys a)) s h

  pub left_join-in_order : InOrder (by_key cmp) (Through sides (StepsTwo (left_join_walk cmp) firsts seconds)) s
  left_join-in_order = joined-in_order cmp (left_join_walk cmp) firsts seconds sides
      (λ xs ys a b. subst (IsStrictlySortedBy (by_key cmp)) (sym (left_join-walk o xs ys a b)) (left_join-ascends o xs ys a)) s h

  pub right_join-in_order : InOrder (by_key cmp) (Through sides (StepsTwo (right_join_walk cmp) firsts seconds)) s
  right_join-in_order = joined-in_order cmp (right_join_walk cmp) firsts seconds sides
      (λ xs ys a b. subst (IsStrictlySortedBy (by_key cmp)) (sym (right_join-walk o xs ys a b)) (right_join-ascends o xs ys b)) s h

  pub outer_join-in_order : InOrder (by_key cmp) (Through sides (StepsTwo (outer_join_walk cmp) firsts seconds)) s
  outer_join-in_order = joined-in_order cmp (outer_join_walk cmp) firsts seconds sides
      (λ xs ys a b. subst (IsStrictlySortedBy (by_key cmp)) (sym (outer_join-walk o xs ys a b)) (outer_join-ascends o xs ys a b)) s h
