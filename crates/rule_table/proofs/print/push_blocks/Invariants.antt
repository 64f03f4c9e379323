use Rattle.std.proofs.Common.{◌-◌, ◌≡◌, ◌+◌, ◌≤◌, ◌++◌}
use Rattle.rule_table.specs.Tiling.{tiling}
use Rattle.rule_table.specs.Answer.{blocks_text}
use Rattle.rule_table.proofs.WrittenLemmas.{IsWrittenTo}
use Rattle.rule_table.proofs.print.push_blocks.Given as goal

abbrev pub invariant-loop-at : goal.invariant-loop-at
invariant-loop-at l = (l.end ≡ l.range.1 + 1) × (l.at ≤ l.end)
    × IsWrittenTo l.end l.at (l.fn.out.items ++ blocks_text (tiling l.range.0 l.range.1)) l.out.items

abbrev pub decreases-loop-at : goal.decreases-loop-at
decreases-loop-at l = l.end - l.at
