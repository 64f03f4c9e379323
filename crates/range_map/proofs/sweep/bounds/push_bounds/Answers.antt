use Rattle.std.proofs.Common.{refl}
use Rattle.range_map.proofs.BoundLemmas.{push_one, push_two}
use Rattle.range_map.proofs.sweep.bounds.push_bounds.Goals as goal

pub returns-in-None-clause-pushed : goal.returns-in-None-clause-pushed
returns-in-None-clause-pushed g c =
    push_one g.T.Element.numbers _ _ _ c.args.range.now _ c.in_ok-push.ensures.items (rw c.start.ensures.value refl)
    (rw (← c.end.ensures.value) (c.in-None.ensures.at_end.0 refl))

pub returns-in_ok-push-in-Some-clause-pushed : goal.returns-in_ok-push-in-Some-clause-pushed
returns-in_ok-push-in-Some-clause-pushed g c =
    push_two g.T.Element.numbers _ _ _ _ _ c.args.range.now _ c.in_ok-push.ensures.items c.in_ok-push-in-Some.ensures.items
    (rw c.start.ensures.value refl) (rw (c.in-Some.ensures.next.1, c.end.ensures.value) refl) c.start.ensures.range.ordered
