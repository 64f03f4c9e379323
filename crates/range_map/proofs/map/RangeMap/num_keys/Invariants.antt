use Rattle.std.proofs.Common.{◌≡◌, ◌+◌, ◌-◌, ◌^◌, ◌≤◌, drop, length}
use Rattle.std.specs.Prelude.{min}
use Rattle.number_line.specs.Members.{members}
use Rattle.range_map.specs.Bounds.{ranges_of}
use Rattle.range_map.specs.Valued.{pairs_in_numbers}
use Rattle.range_map.proofs.map.RangeMap.num_keys.Given as goal

abbrev pub invariant-loop-pair : goal.invariant-loop-pair
invariant-loop-pair g l = record {
  fits : l.count ≤ 2 ^ 64 - 1;
  counted : min (l.count + length (members (ranges_of (pairs_in_numbers g.T.Element.numbers (drop l.pair-index l.pair-items))))) (2 ^ 64 - 1)
      ≡ min (length (members (ranges_of (pairs_in_numbers g.T.Element.numbers l.pair-items)))) (2 ^ 64 - 1);
}
