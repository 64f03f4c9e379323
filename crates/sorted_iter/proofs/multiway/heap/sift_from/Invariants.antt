use Rattle.std.proofs.Common.{ℕ, ◌-◌, IsPermutation, length}
use Rattle.ordered_lists.specs.Heaps.{IsHeapBut}
use Rattle.sorted_iter.specs.MultiwayHeads.{before}
use Rattle.sorted_iter.proofs.multiway.heap.sift_from.Given as goal

abbrev pub invariant-loop-place : goal.invariant-loop-place
invariant-loop-place g l =
    let less = before g.I.Item.Ord.cmp in
    IsPermutation l.initial.heads.items l.heads.items × ((from : ℕ) → IsHeapBut less from l.initial.place l.initial.heads.items → IsHeapBut less from l.place l.heads.items)

abbrev pub decreases-loop-place : goal.decreases-loop-place
decreases-loop-place g l = length l.heads.items - l.place
