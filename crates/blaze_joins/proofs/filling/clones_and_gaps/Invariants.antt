use Rattle.std.proofs.Common.{drop}
use Rattle.number_line.specs.Valued.{IsCanonicalMap}
use Rattle.range_map.specs.Valued.{pairs_in_numbers, AreValuedRanges}
use Rattle.blaze_joins.specs.Filled.{with_gaps}
use Rattle.blaze_joins.proofs.FillLemmas.{IsFilled}
use Rattle.blaze_joins.proofs.filling.clones_and_gaps.Given as goal

abbrev pub invariant-loop-pair : goal.invariant-loop-pair
invariant-loop-pair g l =
    let numbers = g.T.Element.numbers in
    let left = pairs_in_numbers numbers (drop l.pair-index l.pairs) in
    record {
      is_value : numbers.IsValue l.start;
      canonical : IsCanonicalMap g.V.PartialEq.eq (numbers.number l.start) numbers.greatest left;
      ranges : AreValuedRanges numbers l.filled.items;
      made : IsFilled g.V.Clone.is_clone (with_gaps (numbers.number l.start) numbers.greatest left)
          (with_gaps numbers.least numbers.greatest (pairs_in_numbers numbers l.pairs)) (pairs_in_numbers numbers l.filled.items);
    }
