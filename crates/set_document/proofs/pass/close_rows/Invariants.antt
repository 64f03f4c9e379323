-- The rows closed, and those left, are all rows.
use Rattle.std.proofs.Common.{◌≡◌, ◌++◌, ◌≤◌, ◌-◌, drop, length}
use Rattle.cut_points.specs.Cuts.{IsAscending}
use Rattle.set_document.specs.Numbers.{least, greatest}
use Rattle.set_document.specs.Tabled.{table_rows}
use Rattle.set_document.specs.Visits.{rows_with_ends, firsts}
use Rattle.truth_blocks.specs.Rows.{rows_of}
use Rattle.set_document.proofs.pass.close_rows.Given as goal

abbrev pub invariant-loop-i : goal.invariant-loop-i
invariant-loop-i l = record {
  same : table_rows l.done.items ++ rows_with_ends greatest (rows_of (drop l.i l.left.items)) ≡ rows_with_ends greatest (rows_of l.fn.rows.items);
  ascending : IsAscending least greatest (firsts (rows_of (drop l.i l.left.items)));
  bound : l.i ≤ length l.left.items;
}

abbrev pub decreases-loop-i : goal.decreases-loop-i
decreases-loop-i l = length l.left.items - l.i
