use Rattle.std.proofs.Common.{◌≡◌, ℕ, map, Bor}
use Rattle.sorted_vector_set_tests.proofs.tests.listed.Given as goal

abbrev pub invariant-loop-item : goal.invariant-loop-item
invariant-loop-item l = l.list.items ≡ map (λ (item : Bor ℕ). item.now) l.yielded
