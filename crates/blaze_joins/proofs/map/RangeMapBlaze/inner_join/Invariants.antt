use Rattle.number_line.specs.Pieces.{in_both}
use Rattle.blaze_joins.specs.Joins.{CalledAtBoth}
use Rattle.blaze_joins.specs.WalkView.{IsMeeting, pieces_to_come}
use Rattle.blaze_joins.proofs.WalkCalls.{IsCalledTo}
use Rattle.blaze_joins.proofs.map.RangeMapBlaze.inner_join.Given as goal

abbrev pub invariant-loop-piece : goal.invariant-loop-piece
invariant-loop-piece g l = record {
  callable : goal.F-IsAlwaysCallable g l.f;
  meeting : IsMeeting g.T.Element.numbers l.walk;
  called : IsCalledTo g.T.Element.numbers g.V.PartialEq.eq g.W.PartialEq.eq l.self l.right (CalledAtBoth g.F.FnMut) in_both g.X.PartialEq.eq l.fn.f l.f l.walk l.map;
}

abbrev pub decreases-loop-piece : goal.decreases-loop-piece
decreases-loop-piece g l = pieces_to_come g.T.Element.numbers l.walk
