-- The pairs so far, and those of the rules left, are the whole.
use Rattle.std.proofs.Common.{◌≡◌, ◌++◌, drop}
use Rattle.element_core.specs.Numberings.{unsigned}
use Rattle.range_map.specs.Valued.{pairs_in_numbers}
use Rattle.rule_table.specs.Rules.{rules_in_numbers}
use Rattle.rule_table.proofs.segments.decisions_of.Given as goal

abbrev pub invariant-loop-rule : goal.invariant-loop-rule
invariant-loop-rule l = pairs_in_numbers (unsigned 32) l.pairs.items ++ rules_in_numbers (drop l.rule-index l.rules) ≡ rules_in_numbers l.rules
