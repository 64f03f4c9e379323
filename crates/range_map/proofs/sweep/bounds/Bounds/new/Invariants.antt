use Rattle.std.proofs.Common.{◌≡◌, drop}
use Rattle.std.specs.Prelude.{ℕ, ℤ, ◌≤ℤ◌}
use Rattle.range_map.specs.Valued.{pairs_in_numbers}
use Rattle.number_line.specs.Ranges.{xor}
use Rattle.range_map.specs.Bounds.{ranges_of, lies_at, lies_at_from, crossed, bounds_in_numbers}
use Rattle.range_map.proofs.BoundLemmas.{AreValues}
use Rattle.range_map.proofs.sweep.bounds.Bounds.new.Given as goal

abbrev pub invariant-loop-place : goal.invariant-loop-place
invariant-loop-place g l = record {
  values : AreValues g.T.Element.numbers l.bounds.items;
  bounds : (place : ℕ) (x : ℤ) → x ≤ℤ g.T.Element.numbers.greatest
      → xor (crossed (bounds_in_numbers g.T.Element.numbers l.bounds.items) place x)
      (lies_at_from l.place (ranges_of (pairs_in_numbers g.T.Element.numbers (drop l.place l.pairs))) place x)
      ≡ lies_at (ranges_of (pairs_in_numbers g.T.Element.numbers l.pairs)) place x;
}
