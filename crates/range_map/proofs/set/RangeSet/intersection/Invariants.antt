use Rattle.std.proofs.Common.{◌+◌, length}
use Rattle.range_map.specs.Set.{all_in_numbers}
use Rattle.range_map.proofs.CommonLemmas.{IsCommon}
use Rattle.range_map.proofs.set.RangeSet.intersection.Given as goal

abbrev pub invariant-loop-first : goal.invariant-loop-first
invariant-loop-first g l = record {
  common : IsCommon g.T.Element.numbers.least g.T.Element.numbers.greatest
      (all_in_numbers g.T.Element.numbers l.initial.left) (all_in_numbers g.T.Element.numbers l.initial.right)
      l.set
      (all_in_numbers g.T.Element.numbers l.left) (all_in_numbers g.T.Element.numbers l.right);
}

abbrev pub decreases-loop-first : goal.decreases-loop-first
decreases-loop-first g l = length l.left + length l.right
