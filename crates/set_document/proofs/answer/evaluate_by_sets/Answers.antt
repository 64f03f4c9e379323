use Rattle.set_document.proofs.AnswerLemmas.{shape_is}
use Rattle.set_document.specs.Tabled.{table_rows}
use Rattle.set_document.proofs.answer.evaluate_by_sets.Goals as goal

pub returns-clause-shape : goal.returns-clause-shape
returns-clause-shape c =
    shape_is c.args.text.now c.in_ok-done.done (table_rows c.in_ok-rows.rows.items) c.rows_by_sets.ensures.lines c.in_ok-done.ensures.lines
    c.in_ok-rows.ensures.canonical c.in_ok-rows.ensures.values
