use Rattle.std.proofs.Common.{arith, subst, ◌≡◌, ◌-◌, ◌+◌}
use Rattle.std.proofs.lemmas.List.Sorted.{IsPermutation-trans, length_permutation}
use Rattle.ordered_lists.specs.Heaps.{IsHeapFrom}
use Rattle.ordered_lists.proofs.HeapLemmas.{one_before}
use Rattle.sorted_iter.specs.MultiwayHeads.{before}
use Rattle.sorted_iter.proofs.multiway.heap.heapify.Goals as goal

pub loop-place-preserved : goal.loop-place-preserved
loop-place-preserved g c =
    let i = c.loop-place.invariant in
    let k = c.loop-place.place - 1 in
    let e : c.loop-place.place ≡ k + 1 = omega (arith, c.loop-place-test.true) in (
      omega (arith, i.0, length_permutation _ _ c.sift_from.ensures.same),
      IsPermutation-trans _ _ _ i.1 c.sift_from.ensures.same,
      c.sift_from.ensures.heap k (one_before c.loop-place.heads.items k (subst (λ n. IsHeapFrom (before g.I.Item.Ord.cmp) n c.loop-place.heads.items) e i.2)),
    )
