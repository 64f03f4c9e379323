use Rattle.std.proofs.iter.runs.Made.{seen, each_of}
use Rattle.std.specs.List.{AllByRecursion}
use Rattle.std.proofs.lemmas.List.Sorted.{All-permutation}
use Rattle.ordered_lists.proofs.PlaceLemmas.{all_map}
use Rattle.sorted_iter.specs.Orders.{InOrder}
use Rattle.sorted_iter.specs.MultiwayHeads.{can_go}
use Rattle.sorted_iter.proofs.MultiwayTakeLemmas.{finite_heads}
use Rattle.sorted_iter.proofs.MultiwayStartLemmas.{runs-are, lists-are, every-all, heads-ascend}
use Rattle.sorted_iter.proofs.multiway.make.multiway_union.Goals as goal

pub returns-clause-can : goal.returns-clause-can
returns-clause-can g c = All-permutation (can_go g.I.Iterator.can_next g.I.Iterator.remaining) _ _ c.heapify.ensures.same c.in_ok-heads.ensures.can

pub returns-clause-ends : goal.returns-clause-ends
returns-clause-ends g c = finite_heads g.I.Iterator.can_next g.I.Iterator.remaining c.heapify.new.heads.items (All-permutation (can_go g.I.Iterator.can_next g.I.Iterator.remaining) _ _ c.heapify.ensures.same c.in_ok-heads.ensures.can)

pub returns-clause-in_order : goal.returns-clause-in_order
returns-clause-in_order g c =
    let s = c.in_ok-heads.ensures.started in
    let p = s.2.0 in
    let known = every-all g.I.SortedByItem.in_order p.items (each_of p _ (c.requires.in_order s.0 s.1 p (seen _) s.2.1)) in
    let asc : AllByRecursion (InOrder g.I.Item.Ord.cmp g.I.Iterator.next_gives) p.items = all_map _ _ g.met.I.SortedByItem.sorted p.items known in
    heads-ascend g.met.I.Item.Ord.total g.I.Iterator.next_gives p.items _ _ s.2.3 c.heapify.ensures.same asc

pub returns-clause-gives : goal.returns-clause-gives
returns-clause-gives g c =
    let s = c.in_ok-heads.ensures.started in
    let p = s.2.0 in
    let known = every-all g.I.SortedByItem.in_order p.items (each_of p _ (c.requires.in_order s.0 s.1 p (seen _) s.2.1)) in
    let asc : AllByRecursion (InOrder g.I.Item.Ord.cmp g.I.Iterator.next_gives) p.items = all_map _ _ g.met.I.SortedByItem.sorted p.items known in
    let runs = runs-are g.met.I.Item.Ord.total g.I.Iterator.next_gives (λ l. l) p.items c.in_ok-heads.heads.items _ s.2.3 c.heapify.ensures.same asc in
    (s.0, s.1, (p, s.2.1, s.2.2, (runs, lists-are g.I.Iterator.next_gives runs)))
