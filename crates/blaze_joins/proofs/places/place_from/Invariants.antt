use Rattle.std.specs.Prelude.{◌≡◌, ◌≤◌, ◌-◌, length}
use Rattle.blaze_joins.specs.PlaceView.{pairs_from, ranges_from}
use Rattle.blaze_joins.proofs.places.place_from.Given as goal

abbrev pub invariant-loop-pair : goal.invariant-loop-pair
invariant-loop-pair g l = record {
  within : l.place ≤ length l.pairs;
  pairs : ranges_from (g.T.Element.numbers.number l.start) (pairs_from g.T.Element.numbers l.place l.pairs)
      ≡ ranges_from (g.T.Element.numbers.number l.start) (pairs_from g.T.Element.numbers l.at l.pairs);
}

abbrev pub decreases-loop-pair : goal.decreases-loop-pair
decreases-loop-pair g l = length l.pairs - l.place
