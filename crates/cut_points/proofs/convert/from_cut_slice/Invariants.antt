-- The ranges made, and those of the cuts to come, are those of all cuts.
use Rattle.std.proofs.Common.{◌≡◌, ◌++◌}
use Rattle.range_map.specs.Set.{all_in_numbers, AreRanges}
use Rattle.range_map.specs.Sweep.{numbers_of}
use Rattle.cut_points.specs.Cuts.{IsAscending, from_cuts}
use Rattle.cut_points.proofs.convert.from_cut_slice.Given as goal

abbrev pub invariant-loop-start : goal.invariant-loop-start
invariant-loop-start g l =
    let numbers = g.T.Element.numbers in
    let rest = numbers_of numbers l.rest.rest.now in
    record {
      are_ranges : AreRanges numbers l.ranges.items;
      same : all_in_numbers numbers l.ranges.items ++ from_cuts numbers.greatest rest ≡ from_cuts numbers.greatest (numbers_of numbers l.fn.list);
      ascending : IsAscending numbers.least numbers.greatest rest;
    }
