use Rattle.std.proofs.Common.{take}
use Rattle.range_map.specs.Valued.{AreValuedRanges}
use Rattle.range_multimap.proofs.multimap.are_ranges.Given as goal

abbrev pub invariant-loop-pair : goal.invariant-loop-pair
invariant-loop-pair g l = AreValuedRanges g.T.Element.numbers (take l.pair-index l.pairs)
