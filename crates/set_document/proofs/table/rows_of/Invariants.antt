-- The rows made, and those of the slots left, are all rows.
use Rattle.std.proofs.Common.{◌≡◌, ◌++◌, w64}
use Rattle.element_core.specs.Numberings.{signed}
use Rattle.range_map.specs.Valued.{pairs_in_numbers}
use Rattle.set_document.specs.Tabled.{table_rows, rows_of_table}
use Rattle.set_document.proofs.table.rows_of.Given as goal

abbrev pub invariant-loop-range : goal.invariant-loop-range
invariant-loop-range l = table_rows l.rows.items ++ rows_of_table l.groups (pairs_in_numbers (signed w64) l.range-iterator.rest.now)
    ≡ rows_of_table l.groups l.fn.slots
