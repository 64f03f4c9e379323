use Rattle.std.proofs.Common.{◌≡◌}
use Rattle.sorted_vector_map.proofs.grow.pairs_of.Given as goal

abbrev pub invariant-loop-pair : goal.invariant-loop-pair
invariant-loop-pair g l = l.items.items ≡ l.yielded
