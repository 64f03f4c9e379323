use Rattle.std.proofs.Common.{◌≡◌, ◌++◌, map}
use Rattle.element_core.specs.Numberings.{unsigned}
use Rattle.number_line.specs.Rows.{segment_of}
use Rattle.range_map.specs.Valued.{pairs_in_numbers}
use Rattle.rule_table.specs.Answer.{tilings_text}
use Rattle.rule_table.proofs.print.push_tilings.Given as goal

abbrev pub invariant-loop-range : goal.invariant-loop-range
invariant-loop-range l =
    l.out.items ++ tilings_text (map segment_of (pairs_in_numbers (unsigned 32) l.range-iterator.rest.now)) ≡ l.fn.out.items ++ tilings_text (map segment_of l.segments)
