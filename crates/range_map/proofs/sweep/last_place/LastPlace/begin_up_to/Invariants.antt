use Rattle.std.proofs.Common.{List, length}
use Rattle.std.specs.Prelude.{ℤ, map}
use Rattle.std.specs.BinaryHeap.{IsHeap, heap_items}
use Rattle.std.specs.Ordering.{nat_cmp}
use Rattle.range_map.specs.Begun.{AreBegun}
use Rattle.range_map.specs.Bounds.{bounds_in_numbers}
use Rattle.range_map.specs.Sweep.{DoNotFallFrom}
use Rattle.range_map.proofs.sweep.last_place.LastPlace.begin_up_to.Given as goal

abbrev pub invariant-loop-start : goal.invariant-loop-start
invariant-loop-start g l = record {
  in_order : DoNotFallFrom g.T.Element.numbers g.T.Element.numbers.least (map (λ bound. bound.at) l.self-inside.rest.now);
  heap : IsHeap nat_cmp (heap_items l.self-inside.begun);
  begun : (ranges : List (ℤ × ℤ)) → AreBegun ranges (g.T.Element.numbers.number l.x) l.fn.self
      → AreBegun ranges (g.T.Element.numbers.number l.x) (record { places = heap_items l.self-inside.begun; rest = bounds_in_numbers g.T.Element.numbers l.self-inside.rest.now });
}

abbrev pub decreases-loop-start : goal.decreases-loop-start
decreases-loop-start g l = length l.self-inside.rest.now
