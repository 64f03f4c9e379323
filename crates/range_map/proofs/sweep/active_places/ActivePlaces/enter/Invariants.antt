use Rattle.std.proofs.Common.{List, length}
use Rattle.std.specs.Prelude.{ℤ, map}
use Rattle.range_map.specs.Sweep.{DoNotFallFrom}
use Rattle.range_map.specs.Bounds.{is_odd, AreActive, bounds_in_numbers}
use Rattle.range_map.proofs.BoundLemmas.{AreTold}
use Rattle.range_map.proofs.sweep.active_places.ActivePlaces.enter.Given as goal

abbrev pub invariant-loop-bound : goal.invariant-loop-bound
invariant-loop-bound g l = record {
  in_order : DoNotFallFrom g.T.Element.numbers g.T.Element.numbers.least (map (λ bound. bound.at) l.rest);
  told : (ranges : List (ℤ × ℤ)) → AreActive g.T.Element.numbers.greatest ranges (g.T.Element.numbers.number l.x) l.fn.self
      → AreTold g.T.Element.numbers.greatest ranges (g.T.Element.numbers.number l.x) (is_odd l.all.items) (bounds_in_numbers g.T.Element.numbers l.rest);
}

abbrev pub decreases-loop-bound : goal.decreases-loop-bound
decreases-loop-bound g l = length l.rest
