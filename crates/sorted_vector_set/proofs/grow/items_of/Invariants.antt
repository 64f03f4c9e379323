use Rattle.std.proofs.Common.{◌≡◌}
use Rattle.sorted_vector_set.proofs.grow.items_of.Given as goal

abbrev pub invariant-loop-item : goal.invariant-loop-item
invariant-loop-item g l = l.items.items ≡ l.yielded
