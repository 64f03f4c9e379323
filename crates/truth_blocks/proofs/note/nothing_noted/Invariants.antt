use Rattle.std.proofs.Common.{◌≡◌, ◌++◌, drop}
use Rattle.truth_blocks.specs.Blocks.{steps_of}
use Rattle.truth_blocks.specs.Notes.{states, no_notes}
use Rattle.truth_blocks.proofs.note.nothing_noted.Given as goal

abbrev pub invariant-loop-line : goal.invariant-loop-line
invariant-loop-line l = states l.notes.items ++ no_notes (steps_of (drop l._line-index l.lines)) ≡ no_notes (steps_of l.lines)
