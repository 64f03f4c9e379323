use Rattle.std.proofs.Common.{drop}
use Rattle.range_map.specs.Bounds.{ranges_of}
use Rattle.range_map.specs.Valued.{pairs_in_numbers}
use Rattle.range_map.proofs.JoinLemmas.{IsJoinedSoFar}
use Rattle.range_map.proofs.map.RangeMap.to_range_set.Given as goal

abbrev pub invariant-loop-pair : goal.invariant-loop-pair
invariant-loop-pair g l = record {
  joined : IsJoinedSoFar g.T.Element.numbers.least g.T.Element.numbers.greatest (ranges_of (pairs_in_numbers g.T.Element.numbers l.pair-items))
      l.set (ranges_of (pairs_in_numbers g.T.Element.numbers (drop l.pair-index l.pair-items)));
}
