use Rattle.std.proofs.Common.{◌≡◌, ◌==◌, ◌+◌, arith, get_or, sym, ◌∙◌, true}
use Rattle.std.proofs.lemmas.Grind.{common_steps}
use Rattle.set_document.proofs.LabelLemmas.{follow_more}
use Rattle.set_document.proofs.labels.run_len.Goals as goal

pub loop-count-preserved : goal.loop-count-preserved
loop-count-preserved c =
    let test : (get_or c.args.places.now c.loop-count.count 0 == get_or c.args.places.now 0 0 + c.loop-count.count) ≡ true = sym c.follows.ensures ∙ c.if-follows.true in
    let next : get_or c.args.places.now c.loop-count.count 0 ≡ get_or c.args.places.now 0 0 + c.loop-count.count = grind (arith, common_steps) in
    (omega arith, omega arith, follow_more c.args.places.now c.loop-count.count (grind (arith, common_steps)) c.loop-count.invariant.2 next)
