-- What is left has the first fault of the whole, and the rules so far with those left are all.
use Rattle.std.proofs.Common.{◌≡◌, ◌+◌, ◌≤◌, ◌++◌, length}
use Rattle.text_lines.specs.Lines.{lines}
use Rattle.rule_table.specs.Faults.{fault_from, first_fault}
use Rattle.rule_table.specs.Rules.{rules_in_numbers}
use Rattle.rule_table.specs.Document.{rules_from, rules, line_numbers, without_numbers}
use Rattle.rule_table.proofs.reading.read_rules.Given as goal

abbrev pub invariant-loop-rest : goal.invariant-loop-rest
invariant-loop-rest l = record {
  fault : fault_from l.line (lines l.rest) ≡ first_fault l.text;
  found : rules_in_numbers l.found.rules.items ++ without_numbers (rules_from l.line (lines l.rest)) ≡ without_numbers (rules l.text);
  numbers : l.found.lines.items ++ line_numbers (rules_from l.line (lines l.rest)) ≡ line_numbers (rules l.text);
  count : l.line + length l.rest ≤ length l.text + 1;
}

abbrev pub decreases-loop-rest : goal.decreases-loop-rest
decreases-loop-rest l = length l.rest
