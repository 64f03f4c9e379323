use Rattle.std.proofs.Common.{◌≡◌, ◌++◌}
use Rattle.truth_blocks.specs.Blocks.{bits}
use Rattle.truth_blocks.specs.Notes.{items_at_ones}
use Rattle.truth_blocks.specs.Rows.{places_of_true, numbers_with_labels, rows_of}
use Rattle.truth_blocks.proofs.rows.push_rows.Given as goal

abbrev pub invariant-loop-left : goal.invariant-loop-left
invariant-loop-left l = rows_of l.rows.items ++ items_at_ones l.left 0 (numbers_with_labels (λ i. places_of_true (bits i l.words) 0 l.shown) 0 l.block)
    ≡ rows_of l.initial.rows.items ++ items_at_ones l.starts 0 (numbers_with_labels (λ i. places_of_true (bits i l.words) 0 l.shown) 0 l.block)

abbrev pub decreases-loop-left : goal.decreases-loop-left
decreases-loop-left l = l.left
