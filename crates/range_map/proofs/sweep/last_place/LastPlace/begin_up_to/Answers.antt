use Rattle.std.proofs.Common.{◌∷◌, ap}
use Rattle.std.specs.Prelude.{map}
use Rattle.std.proofs.lemmas.List.{nil_from_length}
use Rattle.range_map.specs.Sweep.{DoNotFallFrom}
use Rattle.range_map.specs.Bounds.{bound_in_numbers, bounds_in_numbers}
use Rattle.range_map.proofs.BoundLemmas.{do_not_fall-lower}
use Rattle.range_map.proofs.BegunLemmas.{one_begins}
use Rattle.range_map.proofs.sweep.last_place.LastPlace.begin_up_to.Goals as goal

pub loop-start-preserved : goal.loop-start-preserved
loop-start-preserved g c =
    let numbers = g.T.Element.numbers in
    let start = c.in-Some.start.now in
    let behind = c.in-Some.behind.now in
    let d : DoNotFallFrom numbers numbers.least (map (λ b. b.at) (start ∷ behind)) = rw c.in-Some.ensures.cases.0 at c.loop-start.invariant.in_order in
    record {
      in_order = do_not_fall-lower numbers _ _ _ d.1 d.3;
      heap = c.in_ok-push.ensures.heap_order c.loop-start.invariant.heap;
      begun = λ ranges were. one_begins ranges _ _ _ (bound_in_numbers numbers start) _ (bounds_in_numbers numbers behind) (ap (bounds_in_numbers numbers) c.in-Some.ensures.cases.0)
          c.if-is_below.ensures c.in_ok-push.ensures.permutation (c.loop-start.invariant.begun ranges were);
    }

pub returns-in_err-push-clause-begun : goal.returns-in_err-push-clause-begun
returns-in_err-push-clause-begun g c = λ ranges were. rw c.in_err-push.ensures.unchanged.0 (c.loop-start.invariant.begun ranges were)

pub returns-then-is_below-clause-behind : goal.returns-then-is_below-clause-behind
returns-then-is_below-clause-behind g c = rw c.in-Some.ensures.cases.0 c.if-is_below.ensures

pub returns-in_default-clause-behind : goal.returns-in_default-clause-behind
returns-in_default-clause-behind g c = rw (nil_from_length _ c.in_default.ensures.cases) tt
