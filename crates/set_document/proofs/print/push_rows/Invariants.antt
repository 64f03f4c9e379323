-- What is written, and what the rows left will add, is the whole.
use Rattle.std.proofs.Common.{◌≡◌, ◌++◌, ℕ, List, drop}
use Rattle.set_document.specs.Answer.{rows_text}
use Rattle.set_document.specs.Labels.{HasLabels}
use Rattle.set_document.specs.Tabled.{table_rows}
use Rattle.set_document.proofs.print.push_rows.Given as goal

abbrev pub invariant-loop-row : goal.invariant-loop-row
invariant-loop-row l = (names : List (List ℕ)) → HasLabels names l.labels
    → l.out.items ++ rows_text names (table_rows (drop l.row-index l.rows)) ≡ l.initial.out.items ++ rows_text names (table_rows l.rows)
