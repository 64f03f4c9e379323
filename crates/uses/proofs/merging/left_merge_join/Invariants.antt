use Rattle.std.proofs.Common.{◌≡◌, map}
use Rattle.sorted_pairs.proofs.RefJoins.{deref_left}
use Rattle.uses.proofs.merging.left_merge_join.Given as goal

abbrev pub invariant-loop-key : goal.invariant-loop-key
invariant-loop-key g l = (goal.iterator-loop-key g).can_next l.key-iterator × (goal.iterator-loop-key g).is_finite l.key-iterator × (l.all.items ≡ map deref_left l.yielded)
