-- The segments of the decision over all addresses.
use Rattle.std.specs.Prelude.{◌^◌, ◌-◌, ℤ, pos, Bool, true, false, List, Option}
use Rattle.std.specs.Option.{option_eq}
use Rattle.number_line.specs.Segments.{Segment, segments}
use Rattle.rule_table.specs.Rules.{decision_at}
use Rattle.rule_table.specs.declared.rule.Decision.{Decision}
use Rattle.rule_table.specs.declared.rule.Decision.TheVariants.{Allow, Deny}

-- the `==` of decisions
abbrev pub same_decision : Decision → Decision → Bool
same_decision Allow Allow = true
same_decision Allow Deny = false
same_decision Deny Allow = false
same_decision Deny Deny = true

-- the maximal stretches of addresses of one decision, ascending
unfoldable pub decision_segments : List ((ℤ × ℤ) × Decision) → List (Segment (Option Decision))
decision_segments rules = segments (option_eq same_decision) (decision_at rules) (pos 0) (2 ^ 32 - 1)
