use Rattle.std.proofs.Common.{◌∙◌, ap}
use Rattle.rule_table.specs.Rules.{rules_in_numbers}
use Rattle.rule_table.specs.declared.rule.Decision.TheVariants as Decision
use Rattle.rule_table.proofs.CallerLemmas.{last_rule_decides}
use Rattle.rule_table.proofs.callers.with_ban.Goals as goal

pub returns : goal.returns
returns c = λ x h.
    last_rule_decides c.in_ok-all.all.items (record { decision = Decision.Deny; addresses = c.args.banned }) c.in_ok-table.table x
    (c.in_ok-table.ensures ∙ ap rules_in_numbers (c.as_slice.ensures.value ∙ c.in_ok-push.ensures.items)) h
