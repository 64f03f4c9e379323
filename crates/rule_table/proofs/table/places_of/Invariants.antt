-- The places so far, and those of the rules left, are the whole.
use Rattle.std.proofs.Common.{◌≡◌, ◌++◌, length, drop}
use Rattle.element_core.specs.Numberings.{unsigned}
use Rattle.number_line.specs.Rows.{with_places}
use Rattle.range_map.specs.Valued.{pairs_in_numbers}
use Rattle.rule_table.specs.Rules.{rules_in_numbers}
use Rattle.rule_table.proofs.table.places_of.Given as goal

abbrev pub invariant-loop-rule : goal.invariant-loop-rule
invariant-loop-rule l =
    pairs_in_numbers (unsigned 32) l.places.items ++ with_places (length l.places.items) (rules_in_numbers (drop l.rule-index l.rules)) ≡ with_places 0 (rules_in_numbers l.rules)
