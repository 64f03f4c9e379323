use Rattle.number_line.specs.Pieces.{in_either}
use Rattle.blaze_joins.specs.Joins.{CalledAtEither}
use Rattle.blaze_joins.specs.WalkView.{pieces_to_come}
use Rattle.blaze_joins.proofs.WalkCalls.{IsCalledTo}
use Rattle.blaze_joins.proofs.map.RangeMapBlaze.full_join.Given as goal

abbrev pub invariant-loop-piece : goal.invariant-loop-piece
invariant-loop-piece g l = record {
  callable : goal.F-IsAlwaysCallable g l.f;
  called : IsCalledTo g.T.Element.numbers g.V.PartialEq.eq g.W.PartialEq.eq l.self l.right (CalledAtEither g.F.FnMut) in_either g.X.PartialEq.eq l.fn.f l.f l.walk l.map;
}

abbrev pub decreases-loop-piece : goal.decreases-loop-piece
decreases-loop-piece g l = pieces_to_come g.T.Element.numbers l.walk
