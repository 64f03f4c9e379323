use Rattle.std.proofs.Common.{drop}
use Rattle.range_map.specs.Set.{all_in_numbers}
use Rattle.range_map.proofs.JoinLemmas.{IsJoinedSoFar}
use Rattle.range_map.proofs.set.from_iter.join_in_order.Given as goal

abbrev pub invariant-loop-range : goal.invariant-loop-range
invariant-loop-range g l = record {
  joined : IsJoinedSoFar g.T.Element.numbers.least g.T.Element.numbers.greatest (all_in_numbers g.T.Element.numbers l.ranges)
      l.set (all_in_numbers g.T.Element.numbers (drop l.range-index l.ranges));
}
