-- The values put in, and those left, are all values.
use Rattle.std.proofs.Common.{◌≡◌, ◌++◌, drop}
use Rattle.std.specs.List.{AllByRecursion}
use Rattle.range_map.specs.Sweep.{numbers_of}
use Rattle.cut_points.proofs.many.set_of_values.Given as goal

abbrev pub invariant-loop-value : goal.invariant-loop-value
invariant-loop-value g l =
    let numbers = g.T.Element.numbers in
    record {
      values : AllByRecursion numbers.IsValue l.set.items;
      same : numbers_of numbers l.set.items ++ numbers_of numbers (drop l.value-index l.values) ≡ numbers_of numbers l.values;
    }
