use Rattle.std.proofs.Common.{◌≡◌, map}
use Rattle.sorted_iter_tests.proofs.tests.keys_of_union.Given as goal

abbrev pub invariant-loop-key : goal.invariant-loop-key
invariant-loop-key g l = (goal.iterator-loop-key g).can_next l.key-iterator × (goal.iterator-loop-key g).is_finite l.key-iterator × (l.all.items ≡ map (λ r. r.now) l.yielded)
