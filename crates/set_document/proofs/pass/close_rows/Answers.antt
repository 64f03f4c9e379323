use Rattle.std.proofs.Common.{◌≡◌, ◌+◌, ◌∷◌, ◌-◌, ◌<◌, take, drop, length, arith, ap, slice_set}
use Rattle.std.proofs.lemmas.Grind.{common_steps}
use Rattle.set_document.specs.Numbers.{greatest}
use Rattle.set_document.specs.Visits.{rows_with_ends}
use Rattle.truth_blocks.specs.Rows.{rows_of}
use Rattle.truth_blocks.specs.declared.rows.Row.{Row}
use Rattle.set_document.specs.declared.table.TableRow.{TableRow}
use Rattle.set_document.proofs.PassLemmas.{close_turn, rest_ascends}
use Rattle.set_document.proofs.pass.close_rows.Goals as goal

pub loop-i-preserved : goal.loop-i-preserved
loop-i-preserved c =
    let i = c.loop-i.i in
    let left = c.loop-i.left.items in
    let e : drop i left ≡ c.index_mut.result.now ∷ drop (i + 1) left = grind (arith, common_steps) in
    let new : Row = record { first = c.index_mut.result.now.first; held = c.replace-names.new.dest } in
    let s : drop (i + 1) (slice_set left i new) ≡ drop (i + 1) left = grind (arith, common_steps) in
    let some : 0 < length (drop i left) = grind (arith, common_steps) in
    let whole : take (length c.deref.result.now - i) (drop i c.deref.result.now) ≡ drop i left = grind (arith, common_steps) in
    let numbers = (rw whole at c.closed_range-numbers.ensures) some in
    let row : TableRow = record { numbers = c.closed_range-numbers.result; names = c.replace-names.result } in
    let ascending = rest_ascends (drop i left) c.index_mut.result.now (drop (i + 1) left) e c.loop-i.invariant.ascending in
    let same = close_turn (drop i left) c.index_mut.result.now (drop (i + 1) left) c.loop-i.done.items c.push.new.self.items row
    (rows_with_ends greatest (rows_of c.args.rows.items)) e c.in_ok-push.ensures.items numbers (ap (λ v. v.items) c.replace-names.ensures.value) c.loop-i.invariant.same in
    record { same = rw s same; ascending = rw s ascending; bound = grind (arith, common_steps) }
