use Rattle.std.proofs.Common.{◌≤◌, length, drop}
use Rattle.range_map.specs.Valued.{pairs_in_numbers}
use Rattle.blaze_joins.specs.Joins.{CalledAtValue}
use Rattle.blaze_joins.proofs.CallLemmas.{IsToCome}
use Rattle.blaze_joins.proofs.map.RangeMapBlaze.transform_values.Given as goal

abbrev pub invariant-loop-pair : goal.invariant-loop-pair
invariant-loop-pair g l = record {
  callable : goal.F-IsAlwaysCallable g l.f;
  room : length (drop l.pair-index l.pairs) ≤ l.made.room;
  come : IsToCome (CalledAtValue g.F.FnMut) g.X.PartialEq.eq g.V.PartialEq.eq g.T.Element.numbers.least g.T.Element.numbers.greatest l.fn.f l.f
      (pairs_in_numbers g.T.Element.numbers l.pairs) (pairs_in_numbers g.T.Element.numbers (drop l.pair-index l.pairs)) l.made.list;
}
