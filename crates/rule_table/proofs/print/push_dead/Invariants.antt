use Rattle.std.proofs.Common.{◌≡◌, ◌++◌, drop}
use Rattle.rule_table.specs.Answer.{dead_text}
use Rattle.rule_table.proofs.print.push_dead.Given as goal

abbrev pub invariant-loop-place : goal.invariant-loop-place
invariant-loop-place l = l.out.items ++ dead_text l.table l.place (drop l.place l.lines) ≡ l.fn.out.items ++ dead_text l.table 0 l.lines
