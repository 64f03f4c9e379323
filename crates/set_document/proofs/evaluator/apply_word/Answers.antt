use Rattle.std.proofs.Common.{rules, ◌≡◌}
use Rattle.std.specs.Prelude.{option_map, Some}
use Rattle.set_document.specs.Text.{Not, Or, And, Minus, Xor}
use Rattle.set_document.specs.Words.{kind_of_word}
use Rattle.set_document.proofs.evaluator.apply_word.Goals as goal

pub returns-in-Some-Not : goal.returns-in-Some-Not
returns-in-Some-Not c =
    let e : option_map kind_of_word c.args.found ≡ Some Not = search rules in
    rw e (c.apply_not.ensures c.args.done.now)

pub returns-in-Some-Or : goal.returns-in-Some-Or
returns-in-Some-Or c =
    let e : option_map kind_of_word c.args.found ≡ Some Or = search rules in
    rw e (c.apply_two.ensures c.args.done.now)

pub returns-in-Some-And : goal.returns-in-Some-And
returns-in-Some-And c =
    let e : option_map kind_of_word c.args.found ≡ Some And = search rules in
    rw e (c.apply_two-in-Some-And.ensures c.args.done.now)

pub returns-in-Some-Minus : goal.returns-in-Some-Minus
returns-in-Some-Minus c =
    let e : option_map kind_of_word c.args.found ≡ Some Minus = search rules in
    rw e (c.apply_two-in-Some-Minus.ensures c.args.done.now)

pub returns-in-Some-Xor : goal.returns-in-Some-Xor
returns-in-Some-Xor c =
    let e : option_map kind_of_word c.args.found ≡ Some Xor = search rules in
    rw e (c.apply_two-in-Some-Xor.ensures c.args.done.now)
