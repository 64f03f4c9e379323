use Rattle.std.proofs.Common.{◌≡◌, ◌<◌, ◌∙◌, sym, arith, true, false, length, slice_index_or}
use Rattle.std.proofs.lemmas.List.{get_or_default}
use Rattle.std.proofs.lemmas.List.Sorted.{IsPermutation-trans, IsPermutation-swap}
use Rattle.ordered_lists.proofs.HeapLemmas.{below_child, moves_down, stays, stays_last}
use Rattle.sorted_iter.proofs.MultiwayTakeLemmas.{heads-order}
use Rattle.sorted_iter.specs.MultiwayHeads.{before}
use Rattle.sorted_iter.proofs.multiway.heap.sift_from.Goals as goal

pub loop-place-preserved : goal.loop-place-preserved
loop-place-preserved g c =
    let o = heads-order g.row.I.Denot g.met.I.Item.Ord.total in
    let xs = c.loop-place.heads.items in
    let i = c.loop-place.place in
    let j = c.lesser_child-child.result in
    let k = c.lesser_child-child.ensures in
    let inside : i < length xs = omega (arith, k.within, below_child i j k.child) in
    let up : (d : _) → before g.I.Item.Ord.cmp (slice_index_or xs j d) (slice_index_or xs i d) ≡ true = λ d.
    rw (get_or_default xs j d _ k.within ∙ sym c.index.ensures, get_or_default xs i d _ inside ∙ sym c.index-in-loop-place.ensures) (sym c.is_before.ensures ∙ c.if-not-is_before.false) in (
      IsPermutation-trans _ _ _ c.loop-place.invariant.0 (IsPermutation-swap _ _ i j inside k.within c.swap.ensures.items),
      λ from h. moves_down o xs from i j (c.loop-place.invariant.1 from h) k c.swap.new.self.items up c.swap.ensures.by_index (omega (arith, c.swap.ensures.len, c.loop-place.heads.ok.0, c.swap.new.self.ok.0)),
    )

pub returns-then-not-is_before-clause-heap : goal.returns-then-not-is_before-clause-heap
returns-then-not-is_before-clause-heap g c = λ from h.
    let o = heads-order g.row.I.Denot g.met.I.Item.Ord.total in
    let xs = c.loop-place.heads.items in
    let i = c.loop-place.place in
    let j = c.lesser_child-child.result in
    let k = c.lesser_child-child.ensures in
    let inside : i < length xs = omega (arith, k.within, below_child i j k.child) in
    let low : (d : _) → before g.I.Item.Ord.cmp (slice_index_or xs j d) (slice_index_or xs i d) ≡ false = λ d.
    rw (get_or_default xs j d _ k.within ∙ sym c.index.ensures, get_or_default xs i d _ inside ∙ sym c.index-in-loop-place.ensures) (sym c.is_before.ensures ∙ c.if-not-is_before.true) in
    stays o xs from i j (c.loop-place.invariant.1 from h) k low

pub returns-clause-heap : goal.returns-clause-heap
returns-clause-heap g c = λ from h. stays_last c.loop-place.heads.items from c.loop-place.place (omega (arith, c.loop-place-test.false, c.len.ensures, c.loop-place.heads.ok.0)) (c.loop-place.invariant.1 from h)
