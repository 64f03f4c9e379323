use Rattle.std.proofs.Common.{drop}
use Rattle.range_map.specs.Range.{in_numbers}
use Rattle.range_map.specs.Set.{all_in_numbers}
use Rattle.range_map.specs.Valued.{pairs_in_numbers, AreValuedRanges}
use Rattle.range_map.proofs.PartLemmas.{IsPartsTo}
use Rattle.range_map.proofs.pairs.push_parts.Given as goal

abbrev pub invariant-loop-range : goal.invariant-loop-range
invariant-loop-range g l = record {
  valued : AreValuedRanges g.T.Element.numbers l.made.items;
  so_far : IsPartsTo g.V.Clone.is_clone (pairs_in_numbers g.T.Element.numbers l.initial.made.items) (in_numbers g.T.Element.numbers l.pair.0) l.pair.1
      g.T.Element.numbers.least g.T.Element.numbers.greatest (all_in_numbers g.T.Element.numbers l.ranges)
      (all_in_numbers g.T.Element.numbers (drop l.range-index l.ranges)) (pairs_in_numbers g.T.Element.numbers l.made.items);
}
