use Rattle.std.specs.BinaryHeap.{IsHeap, heap_items, heap_len}
use Rattle.std.specs.Ordering.{nat_cmp}
use Rattle.range_map.specs.Begun.{AreBegun}
use Rattle.range_map.specs.Bounds.{ranges_of, bounds_in_numbers}
use Rattle.range_map.specs.Valued.{pairs_in_numbers}
use Rattle.range_map.proofs.sweep.last_place.drop_ended.Given as goal

abbrev pub invariant-loop-place : goal.invariant-loop-place
invariant-loop-place g l = record {
  heap : IsHeap nat_cmp (heap_items l.begun);
  begun : AreBegun (ranges_of (pairs_in_numbers g.T.Element.numbers l.pairs)) (g.T.Element.numbers.number l.x)
      (record { places = heap_items l.begun; rest = bounds_in_numbers g.T.Element.numbers l.rest });
}

abbrev pub decreases-loop-place : goal.decreases-loop-place
decreases-loop-place g l = heap_len l.begun
