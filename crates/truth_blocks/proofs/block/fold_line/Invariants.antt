-- What is left of the steps makes of the stack what all steps make of nothing, at each place.
use Rattle.std.proofs.Common.{◌≡◌, ℕ, ◌<◌, ◌+◌, [], drop, reverse}
use Rattle.truth_blocks.specs.Blocks.{bits, after_steps}
use Rattle.truth_blocks.proofs.block.fold_line.Given as goal

abbrev pub invariant-loop-step : goal.invariant-loop-step
invariant-loop-step l = (i : ℕ) → i < 64 → after_steps (bits i l.lines) (l.base + i) (reverse (bits i l.stack.items)) (drop l.step-index l.steps) ≡ after_steps (bits i l.lines) (l.base + i) [] l.steps
