use Rattle.std.proofs.Common.{drop}
use Rattle.number_line.proofs.ValuedFullLemmas.{IsTotalTo}
use Rattle.range_map.specs.Valued.{pairs_in_numbers}
use Rattle.range_map.proofs.map.RangeMap.is_full.Given as goal

abbrev pub invariant-loop-pair : goal.invariant-loop-pair
invariant-loop-pair g l = IsTotalTo g.V.PartialEq.eq g.T.Element.numbers.least g.T.Element.numbers.greatest
    (pairs_in_numbers g.T.Element.numbers l.pair-items) (pairs_in_numbers g.T.Element.numbers (drop l.pair-index l.pair-items))
    (g.T.Element.numbers.number l.start)
