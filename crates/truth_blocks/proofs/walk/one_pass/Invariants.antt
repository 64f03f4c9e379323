-- What is left of the numbers makes of the pass what all of them make of nothing.
use Rattle.std.proofs.Common.{◌≡◌, ◌-◌, ◌<◌, ◌≤◌, ◌++◌, length, drop}
use Rattle.truth_blocks.specs.Blocks.{steps_of, values_of}
use Rattle.truth_blocks.specs.Notes.{states, no_notes, walk_places, noted_values}
use Rattle.truth_blocks.specs.Rows.{label_of, rows_from, rows_of}
use Rattle.truth_blocks.proofs.walk.one_pass.Given as goal

abbrev pub invariant-loop-base : goal.invariant-loop-base
invariant-loop-base l =
    let values = values_of (steps_of l.lines) in
    let label = label_of (steps_of l.lines) l.shown in
    record {
      notes : walk_places values l.base (states l.pass.notes.items) (drop l.base l.visited)
          ≡ walk_places values 0 (no_notes (steps_of l.lines)) l.visited;
      rows : rows_of l.pass.rows.items ++ rows_from label l.base (drop l.base l.visited) ≡ rows_from label 0 l.visited;
      carried : 0 < l.base → noted_values l.pass.notes.items ≡ values (l.base - 1);
      len : length l.pass.notes.items ≡ length l.lines;
      bound : l.base ≤ length l.visited;
    }

abbrev pub decreases-loop-base : goal.decreases-loop-base
decreases-loop-base l = length l.visited - l.base
