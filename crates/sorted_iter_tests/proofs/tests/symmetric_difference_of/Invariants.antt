use Rattle.std.proofs.Common.{◌≡◌}
use Rattle.sorted_iter_tests.proofs.tests.symmetric_difference_of.Given as goal

abbrev pub invariant-loop-x : goal.invariant-loop-x
invariant-loop-x g l = (goal.iterator-loop-x g).can_next l.x-iterator × (goal.iterator-loop-x g).is_finite l.x-iterator × (l.all.items ≡ l.yielded)
