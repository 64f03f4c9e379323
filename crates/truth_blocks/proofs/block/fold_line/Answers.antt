use Rattle.std.proofs.Common.{◌≡◌, [], ap, sym, ◌∙◌, arith, drop}
use Rattle.std.proofs.lemmas.Grind.{common_steps}
use Rattle.truth_blocks.specs.Stack.{last_value}
use Rattle.truth_blocks.proofs.BitLemmas.{one_none}
use Rattle.truth_blocks.proofs.BlockLemmas.{top_value}
use Rattle.truth_blocks.proofs.block.fold_line.Goals as goal

pub returns-in-Some : goal.returns-in-Some
returns-in-Some c = λ i p.
    let e : drop c.loop-step.step-index c.args.steps.now ≡ [] = grind (arith, common_steps) in
    sym (top_value i c.loop-step.stack.items c.pop.new.self.items c.in-Some.word c.in-Some.ensures.items) ∙ ap last_value (rw e at (c.loop-step.invariant i p))

pub returns-in-None : goal.returns-in-None
returns-in-None c = λ i p.
    let e : drop c.loop-step.step-index c.args.steps.now ≡ [] = grind (arith, common_steps) in
    let z : c.loop-step.stack.items ≡ [] = grind (arith, common_steps) in
    let left = rw e at (c.loop-step.invariant i p) in
    let none = rw z at left in
    one_none i ∙ ap last_value none
