use Rattle.std.proofs.Common.{◌+◌, ◌≤◌, refl, arith}
use Rattle.std.specs.Prelude.{pos, ◌≤ℤ◌}
use Rattle.std.proofs.lemmas.Int.{ints}
use Rattle.rule_table.specs.Blocks.{IsLeastLength}
use Rattle.rule_table.proofs.WrittenLemmas.{shifted_size, written_start, written_step, written_end}
use Rattle.rule_table.proofs.print.push_blocks.Goals as goal

pub loop-at-init : goal.loop-at-init
loop-at-init c =
    let first = c.from-at.ensures in
    let last = c.from-end.ensures in
    let ends = c.end.ensures in
    let starts = c.start.ensures in
    let ordered : pos c.args.range.now.0 ≤ℤ pos c.args.range.now.1 = ends.range.ordered in
    let h : c.args.range.now.0 ≤ c.args.range.now.1 = omega (arith, ints) in
    rw (first, last, ends.value, starts.value)
    (refl, omega arith, written_start c.args.range.now.0 c.args.range.now.1 c.args.out.now.items h)

pub loop-at-preserved : goal.loop-at-preserved
loop-at-preserved c =
    let l : IsLeastLength (c.from-end.result + 1) c.loop-at.at c.least_length-length.result = c.least_length-length.ensures in
    let fits = l.fits in
    rw (shifted_size c.least_length-length.result, c.in_ok-push_block.ensures)
    (c.loop-at.invariant.0, fits, written_step _ c.loop-at.at c.least_length-length.result _ c.loop-at.out.items c.loop-at.invariant.2 l)

pub returns : goal.returns
returns c = written_end (c.from-end.result + 1) c.loop-at.at _ c.loop-at.out.items (let h = c.loop-at.invariant.1 in omega arith) c.loop-at.invariant.2
