use Rattle.std.proofs.Common.{subst}
use Rattle.std.specs.Iterator.{Yields}
use Rattle.range_map.proofs.LeftOutLemmas.{walk_start, walk_fallen, walk_falls, walk_step, left_out_apart, left_out_end}
use Rattle.range_map.proofs.set.RangeSet.except.Goals as goal

pub loop-x-init : goal.loop-x-init
loop-x-init g c = record {
  can_next = rw c.into_iter-x-iterator.ensures.into_iter_gives c.requires.0;
  is_finite = rw c.into_iter-x-iterator.ensures.into_iter_gives c.requires.1;
  walked = rw c.new-set.ensures (walk_start g.T.Element.numbers);
}

pub loop-x-preserved-then-falls : goal.loop-x-preserved-then-falls
loop-x-preserved-then-falls g c =
    let numbers = g.T.Element.numbers in
    let went = c.in-Some.ensures.goes.on c.loop-x.invariant.is_finite in
    let fallen = rw c.if-falls.true at c.loop-x.invariant.walked in
    record {
      can_next = went.0;
      is_finite = went.1;
      walked = rw c.if-falls.true (walk_fallen numbers c.loop-x.yielded c.in-Some.x fallen);
    }

pub loop-x-preserved-then-is_below_last : goal.loop-x-preserved-then-is_below_last
loop-x-preserved-then-is_below_last g c =
    let numbers = g.T.Element.numbers in
    let went = c.in-Some.ensures.goes.on c.loop-x.invariant.is_finite in
    let so_far = rw c.if-falls.false at c.loop-x.invariant.walked in
    let below = c.if-is_below_last.ensures.below in
    record {
      can_next = went.0;
      is_finite = went.1;
      walked = walk_falls numbers c.loop-x.yielded c.loop-x.last c.loop-x.set c.in-Some.x so_far below.0 below.1 below.2;
    }

pub push_gap_to-requires : goal.push_gap_to-requires
push_gap_to-requires g c =
    let so_far = rw c.if-falls.false at c.loop-x.invariant.walked in
    left_out_apart _ _ _ _ _ so_far.left_out

pub loop-x-preserved : goal.loop-x-preserved
loop-x-preserved g c =
    let numbers = g.T.Element.numbers in
    let went = c.in-Some.ensures.goes.on c.loop-x.invariant.is_finite in
    let so_far = rw c.if-falls.false at c.loop-x.invariant.walked in
    record {
      can_next = went.0;
      is_finite = went.1;
      walked = rw c.if-falls.false (walk_step numbers c.loop-x.yielded c.loop-x.last c.loop-x.set c.in-Some.x so_far c.push_gap_to.new.set c.if-is_below_last.ensures.not_below
          c.in_ok-push_gap_to.ensures.low c.in_ok-push_gap_to.ensures.high c.in_ok-push_gap_to.ensures.pushed);
    }

pub push_gap_to_end-requires : goal.push_gap_to_end-requires
push_gap_to_end-requires g c =
    let so_far = rw c.if-falls-2.false at c.loop-x.invariant.walked in
    left_out_apart _ _ _ _ _ so_far.left_out

pub returns : goal.returns
returns g c =
    let so_far = rw c.if-falls-2.false at c.loop-x.invariant.walked in
    let ran = subst (λ s. Yields g.I.Iterator.next_gives s c.loop-x.yielded c.loop-x.x-iterator) c.into_iter-x-iterator.ensures.into_iter_gives c.loop-x.yielded_by in (
      c.loop-x.yielded,
      (c.next.new.self, (c.loop-x.x-iterator, ran, c.in-None.ensures.steps)),
      (so_far.in_order, left_out_end _ _ _ _ _ so_far.left_out c.push_gap_to_end.new.set c.in_ok-push_gap_to_end.ensures),
    )
