use Rattle.std.proofs.Common.{◌≡◌, ◌<◌, ◌∷◌, All, List}
use Rattle.std.specs.List.{AllByRecursion}
use Rattle.std.specs.declared.cmp.Ordering.TheVariants.{Equal}
use Rattle.sorted_iter.specs.MultiwayHeads.{can_go, heads_left}
use Rattle.sorted_iter.specs.MultiwaySteps.{TakesEach}
use Rattle.sorted_iter.proofs.multiway.stream.MultiwayUnionIterator.next.Given as goal

abbrev pub invariant-loop-equal : goal.invariant-loop-equal
invariant-loop-equal g l =
    All (can_go g.I.Iterator.can_next g.I.Iterator.remaining) l.self.heads.items
    × (heads_left g.I.Iterator.remaining l.self.heads.items < heads_left g.I.Iterator.remaining l.fn.self.heads.items)
    × ((xs : List g.row.I-Item.Denot) × TakesEach g.I.Item.Ord.cmp g.I.Iterator.next_gives l.fn.self.heads.items (l.x ∷ xs) l.self.heads.items × AllByRecursion (λ y. g.I.Item.Ord.cmp l.x y ≡ Equal) xs)

abbrev pub decreases-loop-equal : goal.decreases-loop-equal
decreases-loop-equal g l = heads_left g.I.Iterator.remaining l.self.heads.items
