use Rattle.std.proofs.Common.{drop}
use Rattle.range_map.specs.Valued.{pairs_in_numbers}
use Rattle.blaze_joins.proofs.UniversalLemmas.{IsLeftFrom, HaveValuesTo}
use Rattle.blaze_joins.proofs.map.RangeMapBlaze.is_universal.Given as goal

abbrev pub invariant-loop-pair : goal.invariant-loop-pair
invariant-loop-pair g l = record {
  is_value : g.T.Element.numbers.IsValue l.start;
  left : IsLeftFrom g.V.PartialEq.eq g.T.Element.numbers.least g.T.Element.numbers.greatest (pairs_in_numbers g.T.Element.numbers l.pairs)
      (pairs_in_numbers g.T.Element.numbers (drop l.pair-index l.pairs)) (g.T.Element.numbers.number l.start);
  have : HaveValuesTo g.V.PartialEq.eq g.T.Element.numbers.least g.T.Element.numbers.greatest (pairs_in_numbers g.T.Element.numbers l.pairs)
      (g.T.Element.numbers.number l.start);
}
