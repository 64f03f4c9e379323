use Rattle.std.proofs.Common.{◌≡◌, ◌++◌, ◌-◌, ◌≤◌, length, drop, take}
use Rattle.truth_blocks.specs.Notes.{note_words, states}
use Rattle.truth_blocks.proofs.note.note_all.Given as goal

abbrev pub invariant-loop-i : goal.invariant-loop-i
invariant-loop-i l = record {
  done : states (take l.i l.notes.items) ++ note_words (drop l.i l.words) (states (drop l.i l.notes.items)) l.block ≡ note_words l.words (states l.initial.notes.items) l.block;
  bound : l.i ≤ length l.notes.items;
  len : length l.notes.items ≡ length l.initial.notes.items;
}

abbrev pub decreases-loop-i : goal.decreases-loop-i
decreases-loop-i l = length l.notes.items - l.i
