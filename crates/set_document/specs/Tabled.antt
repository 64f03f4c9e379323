-- The table as the evaluator keeps it: groups of names by their ranges, and every number's slot, the index of its group or none.
use Rattle.std.specs.Prelude.{ℕ, ℤ, List, [], Option, map, unwrap_or}
use Rattle.number_line.specs.Rows.{revalued, value_of_place}
use Rattle.set_document.specs.declared.table.TableRow.{TableRow}

-- the names of a slot: those of the group at its index, or none
abbrev pub names_of_slot : List ((ℤ × ℤ) × List ℕ) → Option ℕ → List ℕ
names_of_slot groups slot = unwrap_or (value_of_place groups slot) []

-- the rows of an answer, each as its numbers and the indices of the names that hold there
abbrev pub table_rows : List TableRow → List ((ℤ × ℤ) × List ℕ)
table_rows rows = map (λ r. (r.numbers, r.names.items)) rows

-- the rows: each slot's numbers, with the names of its group
abbrev pub rows_of_table : List ((ℤ × ℤ) × List ℕ) → List ((ℤ × ℤ) × Option ℕ) → List ((ℤ × ℤ) × List ℕ)
rows_of_table groups slots = revalued (names_of_slot groups) slots
