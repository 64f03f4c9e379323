-- What is left of the lines makes of the words what all lines make of nothing, at each place.
use Rattle.std.proofs.Common.{◌≡◌, ℕ, ◌<◌, ◌+◌, [], drop}
use Rattle.truth_blocks.specs.Blocks.{bits, line_values, steps_of}
use Rattle.truth_blocks.proofs.block.fold_block.Given as goal

abbrev pub invariant-loop-line : goal.invariant-loop-line
invariant-loop-line l = (i : ℕ) → i < 64
    → line_values (l.base + i) (bits i l.words.items) (steps_of (drop l.line-index l.lines)) ≡ line_values (l.base + i) [] (steps_of l.lines)
