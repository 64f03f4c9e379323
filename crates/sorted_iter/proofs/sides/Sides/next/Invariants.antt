use Rattle.sorted_iter.proofs.WalkSteps.{Walked, items_left}
use Rattle.sorted_iter.proofs.sides.Sides.next.Given as goal

abbrev pub invariant-walk : goal.invariant-walk
invariant-walk g l = Walked g.I.Item.Ord.cmp g.I.Iterator.can_next g.I.Iterator.remaining g.I.Iterator.next_gives g.J.Iterator.can_next g.J.Iterator.remaining g.J.Iterator.next_gives l.wants l.fn.self l.self

abbrev pub decreases-walk : goal.decreases-walk
decreases-walk g l = items_left g.I.Iterator.remaining g.J.Iterator.remaining l.self
