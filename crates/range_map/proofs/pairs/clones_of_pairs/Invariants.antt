use Rattle.std.proofs.Common.{drop}
use Rattle.range_map.specs.Valued.{pairs_in_numbers, AreValuedRanges}
use Rattle.number_line.specs.Parts.{IsPairClone}
use Rattle.number_line.proofs.ZippedLemmas.{IsZipped}
use Rattle.range_map.proofs.pairs.clones_of_pairs.Given as goal

abbrev pub invariant-loop-pair : goal.invariant-loop-pair
invariant-loop-pair g l = record {
  ranges : AreValuedRanges g.T.Element.numbers l.copy.items;
  made : IsZipped (IsPairClone g.V.Clone.is_clone) (pairs_in_numbers g.T.Element.numbers (drop l.pair-index l.pairs))
      (pairs_in_numbers g.T.Element.numbers l.pairs) (pairs_in_numbers g.T.Element.numbers l.copy.items);
}
