use Rattle.std.proofs.Common.{◌∙◌, arith, rules, sym, append-nil, append_assoc, get_or, w64}
use Rattle.std.specs.Prelude.{pos, FitsSigned}
use Rattle.std.specs.Int.{trailing_zeros}
use Rattle.std.proofs.lemmas.Int.{to_z-of_z}
use Rattle.truth_blocks.proofs.NoteLemmas.{picked_lowest, none_within, none_left, fewer}
use Rattle.truth_blocks.proofs.note.push_picked.Goals as goal

pub returns-then-place-block : goal.returns-then-place-block
returns-then-place-block c =
    let none = none_within c.loop-left.left c.args.block.now (omega arith) (omega arith) (omega arith) in
    let done = rw none at c.loop-left.invariant in
    sym (append-nil c.loop-left.numbers.items) ∙ done

pub loop-left-smaller : goal.loop-left-smaller
loop-left-smaller c = fewer c.loop-left.left (omega arith) (omega arith)

pub loop-left-preserved : goal.loop-left-preserved
loop-left-preserved c =
    let first = picked_lowest (pos 0) c.loop-left.left c.args.block.now (omega arith) (omega arith) (omega arith) (omega arith) in
    let before = rw first at c.loop-left.invariant in
    let x = get_or c.args.block.now (trailing_zeros w64 c.loop-left.left) (pos 0) in
    let fits : FitsSigned w64 x = search rules in
    rw (c.in_ok-push.ensures.items, append_assoc, to_z-of_z w64 x fits) before

pub returns : goal.returns
returns c =
    let done = rw (c.loop-left-test.false, none_left c.args.block.now) at c.loop-left.invariant in
    sym (append-nil c.loop-left.numbers.items) ∙ done
