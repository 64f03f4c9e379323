use Rattle.std.proofs.Common.{◌≡◌, ℕ, map, Bor}
use Rattle.sorted_vector_map_tests.proofs.tests.keys_of.Given as goal

abbrev pub invariant-loop-key : goal.invariant-loop-key
invariant-loop-key l = l.keys.items ≡ map (λ (key : Bor ℕ). key.now) l.yielded
