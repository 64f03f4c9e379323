use Rattle.std.proofs.Common.{drop}
use Rattle.range_map.proofs.DividedLemmas.{IsMapTo}
use Rattle.range_map.proofs.map.from_iter.is_map.Given as goal

abbrev pub invariant-loop-pair : goal.invariant-loop-pair
invariant-loop-pair g l = IsMapTo g.T.Element.numbers g.V.PartialEq.eq l.fn.pairs l.last (drop l.pair-index l.rest)
