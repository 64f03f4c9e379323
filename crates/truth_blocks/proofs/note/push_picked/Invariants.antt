use Rattle.std.proofs.Common.{◌≡◌, ◌++◌}
use Rattle.truth_blocks.specs.Notes.{items_at_ones}
use Rattle.truth_blocks.proofs.note.push_picked.Given as goal

abbrev pub invariant-loop-left : goal.invariant-loop-left
invariant-loop-left l = l.numbers.items ++ items_at_ones l.left 0 l.block ≡ l.initial.numbers.items ++ items_at_ones l.word 0 l.block

abbrev pub decreases-loop-left : goal.decreases-loop-left
decreases-loop-left l = l.left
