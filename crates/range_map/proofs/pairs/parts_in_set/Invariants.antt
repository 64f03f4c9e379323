-- The pairs that are left are cut still, and what is left of the set ends at the start of the last pair or behind it.
use Rattle.std.proofs.Common.{◌≡◌, drop}
use Rattle.number_line.specs.Parts.{parts_of_pairs, IsPairClone}
use Rattle.number_line.proofs.ZippedLemmas.{IsZipped}
use Rattle.range_map.specs.Merging.{ending_from}
use Rattle.range_map.specs.Set.{all_in_numbers}
use Rattle.range_map.specs.Valued.{pairs_in_numbers, AreValuedRanges}
use Rattle.range_map.proofs.pairs.parts_in_set.Given as goal

abbrev pub invariant-loop-pair : goal.invariant-loop-pair
invariant-loop-pair g l = record {
  valued : AreValuedRanges g.T.Element.numbers l.made.items;
  so_far : IsZipped (IsPairClone g.V.Clone.is_clone)
      (parts_of_pairs (pairs_in_numbers g.T.Element.numbers (drop l.pair-index l.pairs)) l.set)
      (parts_of_pairs (pairs_in_numbers g.T.Element.numbers l.pairs) l.set) (pairs_in_numbers g.T.Element.numbers l.made.items);
  from : all_in_numbers g.T.Element.numbers l.rest ≡ ending_from (g.T.Element.numbers.number l.last) l.set;
}
