-- The ranges that are left are canonical, and none that ends at the value or behind it was passed over.
use Rattle.std.proofs.Common.{◌≡◌}
use Rattle.number_line.specs.Ranges.{IsCanonical}
use Rattle.range_map.specs.Merging.{ending_from}
use Rattle.range_map.specs.Set.{all_in_numbers}
use Rattle.range_map.proofs.set.places.walk_from.Given as goal

abbrev pub invariant-loop : goal.invariant-loop
invariant-loop g l =
    let numbers = g.T.Element.numbers in
    let n = numbers.number l.fn.start in
    record {
      canonical : IsCanonical numbers.least numbers.greatest (all_in_numbers numbers l.rest);
      same : ending_from n (all_in_numbers numbers l.rest) ≡ ending_from n (all_in_numbers numbers l.fn.ranges);
    }
