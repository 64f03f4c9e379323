use Rattle.std.proofs.Common.{drop}
use Rattle.range_map.proofs.OddLemmas.{AreKept}
use Rattle.range_map.proofs.sweep.active_places.odd_ones.Given as goal

abbrev pub invariant-loop-place : goal.invariant-loop-place
invariant-loop-place l = AreKept l.sorted l.odd.items (drop l.place-index l.sorted)
