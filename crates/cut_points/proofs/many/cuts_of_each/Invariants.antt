-- The cuts listed, and those of the ranges left, are all cuts.
use Rattle.std.proofs.Common.{◌≡◌, ◌++◌, drop}
use Rattle.range_map.specs.Set.{all_in_numbers}
use Rattle.range_map.specs.Sweep.{numbers_of}
use Rattle.cut_points.specs.Cuts.{cuts_alone}
use Rattle.cut_points.proofs.many.cuts_of_each.Given as goal

abbrev pub invariant-loop-range : goal.invariant-loop-range
invariant-loop-range g l =
    let numbers = g.T.Element.numbers in
    numbers_of numbers l.list.items ++ cuts_alone numbers.greatest (all_in_numbers numbers (drop l.range-index l.ranges))
    ≡ cuts_alone numbers.greatest (all_in_numbers numbers l.ranges)
