use Rattle.std.proofs.Common.{drop}
use Rattle.range_map.specs.Set.{all_in_numbers}
use Rattle.range_map.proofs.GapLemmas.{IsComplement}
use Rattle.range_map.proofs.set.RangeSet.negated.Given as goal

abbrev pub invariant-loop-range : goal.invariant-loop-range
invariant-loop-range g l = record {
  complement : IsComplement g.T.Element.numbers.least g.T.Element.numbers.greatest
      (all_in_numbers g.T.Element.numbers l.range-items) l.set
      (all_in_numbers g.T.Element.numbers (drop l.range-index l.range-items)) (g.T.Element.numbers.number l.start);
}
