use Rattle.std.proofs.Common.{◌≡◌, ◌∙◌, ◌+◌, ◌≤◌, ◌-◌, length, drop, take, arith}
use Rattle.std.specs.Prelude.{min}
use Rattle.std.proofs.lemmas.Bool.Decides.{nat_tests}
use Rattle.std.proofs.lemmas.Grind.{common_steps}
use Rattle.truth_blocks.specs.Blocks.{steps_of, values_of}
use Rattle.truth_blocks.specs.Notes.{states}
use Rattle.truth_blocks.specs.Rows.{label_of, rows_of}
use Rattle.truth_blocks.proofs.WalkLemmas.{walk_turn}
use Rattle.truth_blocks.proofs.RowLemmas.{rows_turn}
use Rattle.truth_blocks.proofs.walk.one_pass.Goals as goal

pub loop-base-preserved : goal.loop-base-preserved
loop-base-preserved c =
    let i = c.loop-base.invariant in
    let size = c.min-size.result in
    let base = c.loop-base.base in
    let visited = c.args.visited.now in
    let before = c.loop-base.pass in
    let after = c.pass_block.new.pass in
    let values = values_of (steps_of c.args.lines.now) in
    let label = label_of (steps_of c.args.lines.now) c.args.shown.now in
    let e : size ≡ min (length visited - base) 64 = grind (arith, nat_tests) in
    let k : base + size ≤ length visited = omega arith in
    let s : length (take ((base + size) - base) (drop base visited)) ≡ size = grind (arith, common_steps) in
    let carried = rw s at c.in_ok-pass_block.ensures.carried in
    record {
      notes = walk_turn values base size visited (states before.notes.items) (states after.notes.items) k c.in_ok-pass_block.ensures.notes ∙ i.notes;
      rows = rows_turn label base size visited (rows_of before.rows.items) (rows_of after.rows.items) k c.in_ok-pass_block.ensures.rows ∙ i.rows;
      carried = λ _. carried;
      len = c.in_ok-pass_block.ensures.len ∙ i.len;
      bound = k;
    }
