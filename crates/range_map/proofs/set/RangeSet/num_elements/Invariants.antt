use Rattle.std.proofs.Common.{◌≡◌, ◌+◌, ◌-◌, ◌^◌, ◌≤◌, drop, length}
use Rattle.std.specs.Prelude.{min}
use Rattle.number_line.specs.Members.{members}
use Rattle.range_map.specs.Set.{all_in_numbers}
use Rattle.range_map.proofs.set.RangeSet.num_elements.Given as goal

abbrev pub invariant-loop-range : goal.invariant-loop-range
invariant-loop-range g l = record {
  fits : l.count ≤ 2 ^ 64 - 1;
  counted : min (l.count + length (members (all_in_numbers g.T.Element.numbers (drop l.range-index l.range-items)))) (2 ^ 64 - 1)
      ≡ min (length (members (all_in_numbers g.T.Element.numbers l.range-items))) (2 ^ 64 - 1);
}
