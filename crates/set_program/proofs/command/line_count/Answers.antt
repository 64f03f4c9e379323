use Rattle.std.proofs.Common.{◌≡◌, sym, ◌∙◌, w64, to_z, of_z}
use Rattle.std.specs.Prelude.{Some}
use Rattle.set_document.specs.Text.{number}
use Rattle.set_program.proofs.CommandLemmas.{none_is_no_count, count_of_read, read_whole, counted, not_past, not_before}
use Rattle.set_program.proofs.command.line_count.Goals.{else-count-ge1-via-then-count-ge1+else-count-le1000, else-count-ge1-via-else-count-ge1}
use Rattle.set_program.proofs.command.line_count.Goals as goal

pub returns-in_err-count : goal.returns-in_err-count
returns-in_err-count c =
    rw c.from_residual.ensures (none_is_no_count c.args.word.now (sym c.read_number.ensures ∙ c.in_err-count.was))

pub returns-then-count-le1000 : goal.returns-then-count-le1000
returns-then-count-le1000 c =
    let e : number c.args.word.now ≡ Some c.in_ok-count.count = sym c.read_number.ensures ∙ c.in_ok-count.was in
    let whole : to_z w64 (of_z w64 c.in_ok-count.count) ≡ c.in_ok-count.count =
    read_whole c.args.word.now c.in_ok-count.count e in
    rw whole
    (counted c.args.word.now c.in_ok-count.count e (rw whole at c.if-count-ge1.true) (rw whole at c.if-count-le1000.true))

pub returns-else-count-ge1 : goal.returns-else-count-ge1
returns-else-count-ge1 c =
    let e : number c.args.word.now ≡ Some c.in_ok-count.count = sym c.read_number.ensures ∙ c.in_ok-count.was in
    let whole : to_z w64 (of_z w64 c.in_ok-count.count) ≡ c.in_ok-count.count =
    read_whole c.args.word.now c.in_ok-count.count e in
    λ lines h.
    let same = count_of_read c.args.word.now c.in_ok-count.count lines e h in
    elim c.else-count-ge1.branch [
      | else-count-ge1-via-then-count-ge1+else-count-le1000 w ↦
          not_past lines same.2 (rw (whole, same.0) at w.if-count-le1000.false)
      | else-count-ge1-via-else-count-ge1 w ↦ not_before lines same.1 (rw (whole, same.0) at w.if-count-ge1.false)
    ]
