use Rattle.std.specs.Prelude.{◌+◌, ◌≤◌, length}
use Rattle.range_map.specs.Valued.{pair_in_numbers}
use Rattle.blaze_joins.specs.Joins.{CalledAtLeft}
use Rattle.blaze_joins.specs.PlaceView.{pairs_from}
use Rattle.blaze_joins.proofs.WalkCalls.{IsCalledBehind, IsCalledWithin, calls_from}
use Rattle.blaze_joins.proofs.map.RangeMapBlaze.left_join.Given as goal

abbrev pub invariant-loop-pair : goal.invariant-loop-pair
invariant-loop-pair g l = record {
  callable : goal.F-IsAlwaysCallable g l.f;
  within : l.place ≤ length l.others;
  called : IsCalledBehind g.T.Element.numbers g.V.PartialEq.eq g.W.PartialEq.eq l.self l.right (CalledAtLeft g.F.FnMut) g.X.PartialEq.eq l.fn.f l.f
      (pairs_from g.T.Element.numbers l.pair-index l.pairs) (pairs_from g.T.Element.numbers l.place l.others) l.map;
}

abbrev pub invariant-loop-next : goal.invariant-loop-next
invariant-loop-next g l = record {
  callable : goal.F-IsAlwaysCallable g l.f;
  within : l.place ≤ length l.others;
  called : IsCalledWithin g.T.Element.numbers g.V.PartialEq.eq g.W.PartialEq.eq l.self l.right (CalledAtLeft g.F.FnMut) g.X.PartialEq.eq l.fn.f l.f
      (pair_in_numbers g.T.Element.numbers l.pair) (pairs_from g.T.Element.numbers (l.pair-index + 1) l.pairs) (pairs_from g.T.Element.numbers l.place l.others) l.next l.map;
}

abbrev pub decreases-loop-next : goal.decreases-loop-next
decreases-loop-next g l = calls_from g.T.Element.numbers l.self l.right l.next
