use Rattle.std.proofs.Common.{◌≤◌, ◌-◌, length}
use Rattle.set_document.proofs.labels.names_len.Given as goal

abbrev pub invariant-loop-at : goal.invariant-loop-at
invariant-loop-at l = l.at ≤ length l.places

abbrev pub decreases-loop-at : goal.decreases-loop-at
decreases-loop-at l = length l.places - l.at
