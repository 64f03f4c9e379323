use Rattle.std.proofs.Common.{◌≡◌, ◌+◌, ◌≤◌, length, drop, ◌-◌}
use Rattle.std.specs.List.{prefix_len}
use Rattle.set_document.specs.Text.{is_letter}
use Rattle.set_document.proofs.line.letters_len.Given as goal

abbrev pub invariant-loop-at : goal.invariant-loop-at
invariant-loop-at l = (l.at ≤ length l.body) × (prefix_len is_letter l.body ≡ l.at + prefix_len is_letter (drop l.at l.body))

abbrev pub decreases-loop-at : goal.decreases-loop-at
decreases-loop-at l = length l.body - l.at
