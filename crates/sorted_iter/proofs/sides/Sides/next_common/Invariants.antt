use Rattle.sorted_iter.proofs.CommonSteps.{InHand}
use Rattle.sorted_iter.proofs.WalkSteps.{items_left}
use Rattle.sorted_iter.proofs.sides.Sides.next_common.Given as goal

abbrev pub invariant-walk : goal.invariant-walk
invariant-walk g l = InHand g.I.Item.Ord.cmp g.I.Iterator.can_next g.I.Iterator.remaining g.I.Iterator.next_gives g.J.Iterator.can_next g.J.Iterator.remaining g.J.Iterator.next_gives l.fn.self l.x l.y l.self

abbrev pub decreases-walk : goal.decreases-walk
decreases-walk g l = items_left g.I.Iterator.remaining g.J.Iterator.remaining l.self
