use Rattle.std.proofs.Common.{◌+◌, length}
use Rattle.range_map.specs.Set.{all_in_numbers}
use Rattle.range_map.proofs.MergeLemmas.{IsMerged}
use Rattle.range_map.proofs.set.RangeSet.union.Given as goal

abbrev pub invariant-loop-taken : goal.invariant-loop-taken
invariant-loop-taken g l = record {
  merged : IsMerged g.T.Element.numbers.least g.T.Element.numbers.greatest
      (all_in_numbers g.T.Element.numbers l.initial.left) (all_in_numbers g.T.Element.numbers l.initial.right)
      l.set
      (all_in_numbers g.T.Element.numbers l.left) (all_in_numbers g.T.Element.numbers l.right);
}

abbrev pub decreases-loop-taken : goal.decreases-loop-taken
decreases-loop-taken g l = length l.left + length l.right
