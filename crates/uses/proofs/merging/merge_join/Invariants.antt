use Rattle.std.proofs.Common.{◌≡◌, map}
use Rattle.sorted_pairs.proofs.RefJoins.{deref_both}
use Rattle.uses.proofs.merging.merge_join.Given as goal

abbrev pub invariant-loop-key : goal.invariant-loop-key
invariant-loop-key g l = (goal.iterator-loop-key g).can_next l.key-iterator × (goal.iterator-loop-key g).is_finite l.key-iterator × (l.all.items ≡ map deref_both l.yielded)
