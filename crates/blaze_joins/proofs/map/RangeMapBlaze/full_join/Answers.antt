use Rattle.std.proofs.Common.{rules, of_calls, ap, arith, ◌∙◌}
use Rattle.number_line.specs.Pieces.{in_either}
use Rattle.range_map.specs.Valued.{pairs_in_numbers}
use Rattle.blaze_joins.specs.Joins.{CalledAtEither}
use Rattle.blaze_joins.proofs.WalkCalls.{parts_either, called_first, called_room, called_below, called_fewer, called_at, called_all}
use Rattle.blaze_joins.proofs.map.RangeMapBlaze.full_join.Goals as goal

pub loop-piece-init : goal.loop-piece-init
loop-piece-init g c = record {
  callable = search (rules, of_calls);
  called = called_first g.T.Element.numbers g.V.PartialEq.eq g.W.PartialEq.eq _ _ (CalledAtEither g.F.FnMut) in_either g.X.PartialEq.eq c.args.f _ c.in_ok-map.map c.new-walk.ensures.walk
      (ap (pairs_in_numbers g.T.Element.numbers) c.new-walk.ensures.left ∙ c.as_slice-left.ensures.list ∙ c.self.view_is)
      (ap (pairs_in_numbers g.T.Element.numbers) c.new-walk.ensures.right ∙ c.as_slice-right.ensures.list ∙ c.right.view_is) c.new-walk.ensures.start
      (omega (arith, c.new-walk.ensures.most, c.in_ok-most.ensures, c.in_ok-map.ensures.1)) c.in_ok-map.ensures.0;
}

pub push-requires-clause-room : goal.push-requires-clause-room
push-requires-clause-room g c = called_room g.T.Element.numbers g.V.PartialEq.eq g.W.PartialEq.eq _ _ (CalledAtEither g.F.FnMut) in_either g.X.PartialEq.eq parts_either c.args.f _ _ _ _ _ _ c.in-Some.ensures.piece c.loop-piece.invariant.called

pub push-requires-clause-end_below : goal.push-requires-clause-end_below
push-requires-clause-end_below g c = called_below g.T.Element.numbers g.V.PartialEq.eq g.W.PartialEq.eq _ _ (CalledAtEither g.F.FnMut) in_either g.X.PartialEq.eq parts_either c.args.f _ _ _ _ _ _ c.in-Some.ensures.piece c.loop-piece.invariant.called

pub returns-clause-joined : goal.returns-clause-joined
returns-clause-joined g c = rw c.into_map.ensures.map
    (called_all g.T.Element.numbers g.V.PartialEq.eq g.W.PartialEq.eq _ _ (CalledAtEither g.F.FnMut) in_either g.X.PartialEq.eq c.args.f _ _ c.loop-piece.map c.in_default.ensures.none c.loop-piece.invariant.called)

pub loop-piece-preserved : goal.loop-piece-preserved
loop-piece-preserved g c = record {
  callable = search (rules, of_calls);
  called = called_at g.T.Element.numbers g.V.PartialEq.eq g.W.PartialEq.eq _ _ (CalledAtEither g.F.FnMut) in_either g.X.PartialEq.eq parts_either c.args.f _ _ _ _ _ _ c.in-Some.ensures.piece c.loop-piece.invariant.called
      c.in-Some.ensures.same_left c.in-Some.ensures.same_right _ c.f-answer.result _ c.in-Some.ensures.walk
      (record { left = _; right = _; shows = c.in-Some.ensures.piece.shows; called = c.f-answer.ensures }) c.push.ensures.put c.push.ensures.room;
}

pub loop-piece-smaller : goal.loop-piece-smaller
loop-piece-smaller g c = called_fewer g.T.Element.numbers g.V.PartialEq.eq g.W.PartialEq.eq _ _ (CalledAtEither g.F.FnMut) in_either g.X.PartialEq.eq parts_either c.args.f _ _ _ _ _ _ c.in-Some.ensures.piece c.loop-piece.invariant.called
    c.in-Some.ensures.same_left c.in-Some.ensures.same_right
