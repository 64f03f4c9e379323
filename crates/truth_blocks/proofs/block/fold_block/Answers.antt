use Rattle.std.proofs.Common.{◌≡◌, ◌∙◌, ◌+◌, ◌∷◌, drop, arith}
use Rattle.std.proofs.lemmas.Grind.{common_steps}
use Rattle.truth_blocks.specs.Blocks.{is_one, bits, line_value, steps_of}
use Rattle.truth_blocks.proofs.BlockLemmas.{line_turn}
use Rattle.truth_blocks.proofs.block.fold_block.Goals as goal

pub loop-line-preserved : goal.loop-line-preserved
loop-line-preserved c = λ i p.
    let n = c.loop-line.line-index in
    let lines = c.args.lines.now in
    let e : drop n lines ≡ c.line-item.result ∷ drop (n + 1) lines = grind (arith, common_steps) in
    let before = rw e at (c.loop-line.invariant i p) in
    let steps = c.line-item.result.steps.items in
    let v : is_one c.in_ok-word.word i ≡ line_value (bits i c.loop-line.words.items) (c.args.base + i) steps =
    rw (c.deref.ensures.value, c.deref-in-loop-line.ensures.value) at (c.in_ok-word.ensures i p) in
    line_turn i (c.args.base + i) c.loop-line.words.items c.push.new.self.items c.in_ok-word.word steps (steps_of (drop (n + 1) lines)) c.in_ok-push.ensures.items v ∙ before
