use Rattle.std.proofs.Common.{◌≡◌, List, ◌++◌}
use Rattle.number_line.specs.Kept.{kept_from}
use Rattle.range_map.specs.Range.{IsRange}
use Rattle.range_map.specs.Valued.{pair_in_numbers, pairs_in_numbers, AreValuedRanges}
use Rattle.range_map.proofs.DividedLemmas.{behind}
use Rattle.range_map.proofs.map.from_iter.divide_sorted.Given as goal

abbrev pub invariant-loop-pair : goal.invariant-loop-pair
invariant-loop-pair g l = record {
  first : IsRange g.T.Element.numbers l.initial.last.0;
  seen : AreValuedRanges g.T.Element.numbers l.yielded;
  last : IsRange g.T.Element.numbers l.last.0;
  ranges : AreValuedRanges g.T.Element.numbers l.kept.items;
  rules : (rest : List _) → behind (pairs_in_numbers g.T.Element.numbers l.kept.items) (pairs_in_numbers g.T.Element.numbers l.discarded.items)
      (kept_from g.V.PartialEq.eq (pair_in_numbers g.T.Element.numbers l.last) rest)
      ≡ kept_from g.V.PartialEq.eq (pair_in_numbers g.T.Element.numbers l.initial.last) (pairs_in_numbers g.T.Element.numbers l.yielded ++ rest);
}
