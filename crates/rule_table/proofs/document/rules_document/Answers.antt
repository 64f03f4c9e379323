use Rattle.std.proofs.Common.{◌∙◌, ap}
use Rattle.rule_table.specs.Rules.{rules_in_numbers}
use Rattle.rule_table.proofs.DocumentLemmas.{answered}
use Rattle.rule_table.proofs.document.rules_document.Goals as goal

pub returns-clause-answer : goal.returns-clause-answer
returns-clause-answer c =
    answered c.args.text.now c.in_ok-out.out.items (rules_in_numbers c.as_slice.result.now) c.as_slice-2.result.now
    (ap rules_in_numbers c.as_slice.ensures.value ∙ c.in_ok-found.ensures.rules) (c.as_slice-2.ensures.value ∙ c.in_ok-found.ensures.lines) c.in_ok-out.ensures
