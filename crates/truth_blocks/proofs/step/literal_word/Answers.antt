use Rattle.std.proofs.Common.{◌≡◌, ◌∙◌, arith, ◌-◌, min}
use Rattle.std.proofs.lemmas.Bool.Decides.{nat_tests}
use Rattle.truth_blocks.proofs.BitLemmas.{one_between, one_none, literal_place, literal_none}
use Rattle.truth_blocks.proofs.step.literal_word.Goals as goal

pub returns-then-low-high : goal.returns-then-low-high
returns-then-low-high c = λ i p.
    let low = c.saturating_sub-low.result in
    let high = c.min-high.result in
    let upper : high ≡ min (c.args.to - c.args.base) 64 = grind (arith, nat_tests) in
    one_between low high i (omega arith) (omega arith) p ∙ literal_place c.args.from c.args.to c.args.base low high i c.saturating_sub-low.ensures upper p

pub returns : goal.returns
returns c = λ i p.
    let high = c.min-high.result in
    let upper : high ≡ min (c.args.to - c.args.base) 64 = grind (arith, nat_tests) in
    one_none i ∙ literal_none c.args.from c.args.to c.args.base c.saturating_sub-low.result high i c.saturating_sub-low.ensures upper p (omega arith)
