use Rattle.std.proofs.Common.{rules, subst, sym, ◌<◌, length, slice_set, All}
use Rattle.ordered_lists.specs.Heaps.{IsHeapBut}
use Rattle.ordered_lists.proofs.HeapLemmas.{first_set, first_removed}
use Rattle.sorted_iter.specs.MultiwayHeads.{before, can_go, heads_left, TakesLeast}
use Rattle.sorted_iter.proofs.MultiwayTakeLemmas.{took_on, took_last}
use Rattle.sorted_iter.proofs.multiway.take.take_least.Given.{Over}
use Rattle.sorted_iter.proofs.multiway.take.take_least.Goals as goal

on : (g : Over) (c : goal.After-sift_down g)
    → All (can_go g.I.Iterator.can_next g.I.Iterator.remaining) c.sift_down.new.heads.items × TakesLeast g.I.Item.Ord.cmp g.I.Iterator.next_gives c.args.heads.now.items c.in-Some.item c.sift_down.new.heads.items
    × (heads_left g.I.Iterator.remaining c.sift_down.new.heads.items < heads_left g.I.Iterator.remaining c.args.heads.now.items)
on g c =
    let pos : 0 < length c.args.heads.now.items = search rules in
    took_on g.met.I.Item.Ord.total g.I.Iterator.next_gives g.I.Iterator.can_next g.I.Iterator.remaining c.args.heads.now.items c.sift_down.new.heads.items c.index_mut.result.now c.advance.new.self
    c.in-Some.item pos c.index_mut.ensures.value c.sift_down.ensures.same c.requires.heap c.requires.can c.in-Some.ensures.steps c.in-Some.ensures.goes

last : (g : Over) (c : goal.After-drop-head g)
    → All (can_go g.I.Iterator.can_next g.I.Iterator.remaining) c.sift_down-in-None.new.heads.items
    × TakesLeast g.I.Item.Ord.cmp g.I.Iterator.next_gives c.args.heads.now.items c.swap_remove-head.result.item c.sift_down-in-None.new.heads.items
    × (heads_left g.I.Iterator.remaining c.sift_down-in-None.new.heads.items < heads_left g.I.Iterator.remaining c.args.heads.now.items)
last g c =
    let pos : 0 < length c.args.heads.now.items = search rules in
    took_last g.met.I.Item.Ord.total g.I.Iterator.next_gives g.I.Iterator.can_next g.I.Iterator.remaining c.args.heads.now.items c.swap_remove-head.new.self.items c.sift_down-in-None.new.heads.items
    c.index_mut.result.now c.advance.new.self c.swap_remove-head.result pos c.index_mut.ensures.value c.swap_remove-head.ensures.value c.swap_remove-head.ensures.items c.sift_down-in-None.ensures.same
    c.requires.heap c.requires.can c.in-None.ensures.steps

pub returns-in-Some-clause-can : goal.returns-in-Some-clause-can
returns-in-Some-clause-can g c = (on g c).0

pub returns-in-Some-clause-takes : goal.returns-in-Some-clause-takes
returns-in-Some-clause-takes g c = (on g c).1

pub returns-in-Some-clause-fewer : goal.returns-in-Some-clause-fewer
returns-in-Some-clause-fewer g c = (on g c).2

pub returns-in-None-clause-can : goal.returns-in-None-clause-can
returns-in-None-clause-can g c = (last g c).0

pub returns-in-None-clause-takes : goal.returns-in-None-clause-takes
returns-in-None-clause-takes g c = (last g c).1

pub returns-in-None-clause-fewer : goal.returns-in-None-clause-fewer
returns-in-None-clause-fewer g c = (last g c).2

pub returns-in-None-clause-heap : goal.returns-in-None-clause-heap
returns-in-None-clause-heap g c =
    let less = before g.I.Item.Ord.cmp in
    let h = first_removed (slice_set c.args.heads.now.items 0 c.advance.new.self) c.swap_remove-head.result (first_set c.args.heads.now.items c.advance.new.self c.requires.heap) in
    c.sift_down-in-None.ensures.heap (subst (IsHeapBut less 0 0) (sym c.swap_remove-head.ensures.items) h)
