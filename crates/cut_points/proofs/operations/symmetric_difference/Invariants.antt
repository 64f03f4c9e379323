-- The ranges made, and those of the cuts to come, are those of all cuts.
use Rattle.std.proofs.Common.{◌≡◌, ◌++◌, length}
use Rattle.std.specs.Ordering.{int_cmp}
use Rattle.ordered_lists.specs.Lists.{symmetric_difference}
use Rattle.range_map.specs.Set.{all_in_numbers, AreRanges}
use Rattle.cut_points.specs.Cuts.{IsAscending, cuts, from_cuts}
use Rattle.cut_points.proofs.operations.symmetric_difference.Given as goal

abbrev pub invariant-loop-start : goal.invariant-loop-start
invariant-loop-start g l =
    let numbers = g.T.Element.numbers in
    let rest = symmetric_difference int_cmp l.left_cuts l.right_cuts in
    record {
      are_ranges : AreRanges numbers l.ranges.items;
      same : all_in_numbers numbers l.ranges.items ++ from_cuts numbers.greatest rest
          ≡ from_cuts numbers.greatest (symmetric_difference int_cmp (cuts numbers.greatest l.fn.left) (cuts numbers.greatest l.fn.right));
      ascending : IsAscending numbers.least numbers.greatest rest;
    }

abbrev pub decreases-loop-start : goal.decreases-loop-start
decreases-loop-start g l = length (symmetric_difference int_cmp l.left_cuts l.right_cuts)
