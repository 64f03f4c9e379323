use Rattle.std.proofs.Common.{drop}
use Rattle.std.specs.List.{AllByRecursion}
use Rattle.cut_points.proofs.convert.are_values.Given as goal

abbrev pub invariant-loop-value : goal.invariant-loop-value
invariant-loop-value g l = AllByRecursion g.T.Element.numbers.IsValue (drop l.value-index l.list) → AllByRecursion g.T.Element.numbers.IsValue l.list
