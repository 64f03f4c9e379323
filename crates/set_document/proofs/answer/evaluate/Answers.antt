use Rattle.set_document.proofs.LawLemmas.{few_ranges, few_rows}
use Rattle.set_document.proofs.PassLemmas.{shape_of_parts}
use Rattle.set_document.proofs.answer.evaluate.Goals as goal

pub pass_over-requires : goal.pass_over-requires
pass_over-requires c = rw (c.deref-2.ensures.value) (rw (c.deref.ensures.value, c.in_ok-ranges.ensures.ranges) at c.in_ok-visited.ensures)

pub returns : goal.returns
returns c =
    let text = c.args.text.now in
    let parts = c.in_ok-done.ensures in
    record {
      well_formed = c.in_ok-ranges.ensures.fault_free;
      shape = shape_of_parts text _ _ parts.lines parts.rows;
      fault = tt;
      few_ranges = rw parts.lines (few_ranges text);
      few_rows = rw parts.rows (few_rows text);
    }
