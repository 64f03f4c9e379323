use Rattle.std.proofs.Common.{◌≡◌, ◌++◌}
use Rattle.std.specs.List.{AllByRecursion}
use Rattle.range_map.specs.Sweep.{numbers_of}
use Rattle.cut_points.specs.Cuts.{cuts}
use Rattle.cut_points.proofs.convert.cuts.Given as goal

abbrev pub invariant-loop-range : goal.invariant-loop-range
invariant-loop-range g l = record {
  values : AllByRecursion g.T.Element.numbers.IsValue l.kept.items;
  same : numbers_of g.T.Element.numbers l.kept.items ++ cuts g.T.Element.numbers.greatest l.range-iterator ≡ cuts g.T.Element.numbers.greatest l.fn.set;
}
