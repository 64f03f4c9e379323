use Rattle.std.proofs.Common.{◌≤◌, IsPermutation, length}
use Rattle.ordered_lists.specs.Heaps.{IsHeapFrom}
use Rattle.sorted_iter.specs.MultiwayHeads.{before}
use Rattle.sorted_iter.proofs.multiway.heap.heapify.Given as goal

abbrev pub invariant-loop-place : goal.invariant-loop-place
invariant-loop-place g l = (l.place ≤ length l.heads.items) × IsPermutation l.initial.heads.items l.heads.items × IsHeapFrom (before g.I.Item.Ord.cmp) l.place l.heads.items

abbrev pub decreases-loop-place : goal.decreases-loop-place
decreases-loop-place g l = l.place
