use Rattle.std.proofs.Common.{◌≡◌, ◌∙◌, ◌+◌, ◌∷◌, drop, get_or, arith}
use Rattle.std.proofs.lemmas.Grind.{common_steps}
use Rattle.truth_blocks.specs.Blocks.{bits}
use Rattle.truth_blocks.specs.Rows.{places_of_true}
use Rattle.truth_blocks.proofs.RowLemmas.{bit_of_line}
use Rattle.truth_blocks.proofs.rows.held_at.Goals as goal

pub loop-k-preserved : goal.loop-k-preserved
loop-k-preserved c =
    let n = c.loop-k.k in
    let shown = c.args.shown.now in
    let e : drop n shown ≡ get_or shown n 0 ∷ drop (n + 1) shown = grind (arith, common_steps) in
    let within = rw e at c.loop-k.invariant.within in
    let before = rw (e, bit_of_line c.args.place c.args.words.now (get_or shown n 0)) at c.loop-k.invariant.same in
    let pushed = rw c.is_set.ensures at (c.in_ok-push_if.ensures (places_of_true (bits c.args.place c.args.words.now) (n + 1) (drop (n + 1) shown))) in
    record { same = pushed ∙ before; within = within.1 }
