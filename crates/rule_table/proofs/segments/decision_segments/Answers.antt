use Rattle.std.proofs.Common.{rules, ◌≡◌, ◌∙◌, ap, length, refl, subst}
use Rattle.std.specs.Prelude.{pos, ◌^◌, ◌-◌}
use Rattle.std.specs.Vec.Iter.{into_iter_len}
use Rattle.element_core.specs.Numberings.{unsigned}
use Rattle.number_line.specs.Valued.{HasValues}
use Rattle.blaze_joins.specs.LastValue.{last_value_at}
use Rattle.range_map.specs.Valued.{pairs_in_numbers}
use Rattle.range_map.proofs.TakenLemmas.{taken_whole}
use Rattle.rule_table.specs.Rules.{rules_in_numbers}
use Rattle.rule_table.specs.Decisions.{same_decision}
use Rattle.rule_table.specs.declared.rule.Decision.{Decision}
use Rattle.rule_table.specs.declared.rule.Decision.TheVariants.{Allow, Deny}
use Rattle.rule_table.specs.contracts.rule.DecisionPartialEq.TheImpl.{eq-value}
use Rattle.rule_table.proofs.DecisionLemmas.{rows_are_segments, one_test}
use Rattle.rule_table.proofs.segments.decision_segments.Goals as goal

derived : (a b : Decision) → eq-value.it a b ≡ same_decision a b
derived Allow Allow = refl
derived Allow Deny = refl
derived Deny Allow = refl
derived Deny Deny = refl

pub returns : goal.returns
returns c =
    let ran = c.in_ok-decisions.ensures.values in
    let items = c.in_ok-pairs.pairs.items in
    let len : into_iter_len ran.0 ≡ length items = ran.2.1 ∙ search rules in
    let given = taken_whole ran.0 items ran.1 ran.2.0 len ran.3 in
    let whole = ap (pairs_in_numbers (unsigned 32)) given ∙ c.in_ok-pairs.ensures in
    rows_are_segments eq-value.it (one_test eq-value.it derived) (rules_in_numbers c.args.rules.now) c.in_ok-decisions.decisions c.in_ok-segments.segments
    (subst (λ list. HasValues eq-value.it (last_value_at list) (pos 0) (pos (2 ^ 32 - 1)) c.in_ok-decisions.decisions) whole ran.4)
    c.in_ok-segments.ensures.canonical c.in_ok-segments.ensures.values
