use Rattle.range_map.specs.Valued.{pairs_in_numbers}
use Rattle.range_map.specs.Bounds.{ranges_of, bounds_in_numbers}
use Rattle.range_map.proofs.BoundLemmas.{AreValues}
use Rattle.range_map.proofs.BegunLemmas.{AreStartsBelow}
use Rattle.range_map.proofs.sweep.last_place.Starts.new.Given as goal

abbrev pub invariant-loop-place : goal.invariant-loop-place
invariant-loop-place g l = record {
  values : AreValues g.T.Element.numbers l.starts.items;
  below : AreStartsBelow (ranges_of (pairs_in_numbers g.T.Element.numbers l.pairs)) l.place (bounds_in_numbers g.T.Element.numbers l.starts.items);
}
