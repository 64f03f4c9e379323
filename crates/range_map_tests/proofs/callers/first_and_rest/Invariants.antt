use Rattle.std.proofs.Common.{◌≡◌, ◌++◌}
use Rattle.range_map_tests.proofs.callers.first_and_rest.Given as goal

abbrev pub invariant-loop-range : goal.invariant-loop-range
invariant-loop-range l = l.list.items ++ l.range-iterator ≡ l.fn.set
