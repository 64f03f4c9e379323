use Rattle.std.proofs.Common.{sym, ◌∙◌}
use Rattle.sorted_iter.proofs.WalkSteps.{walked-none, left-ended, left-ended_all, right-ended, right-ended_all, less-gives, less-on, equal-gives, equal-on, greater-gives, greater-on}
use Rattle.sorted_iter.proofs.sides.Sides.next.Goals as goal

pub walk-init : goal.walk-init
walk-init g c = walked-none g.I.Item.Ord.cmp g.I.Iterator.can_next g.I.Iterator.remaining g.I.Iterator.next_gives g.J.Iterator.can_next g.J.Iterator.remaining g.J.Iterator.next_gives c.args.wants c.args.self.now c.requires

pub returns-then-wants-clause-steps : goal.returns-then-wants-clause-steps
returns-then-wants-clause-steps g c =
    let l = rw c.in_default.is at c.take.ensures in
    left-ended g.I.Item.Ord.cmp g.I.Iterator.can_next g.I.Iterator.remaining g.I.Iterator.next_gives g.J.Iterator.can_next g.J.Iterator.remaining g.J.Iterator.next_gives c.args.wants c.walk.invariant l c.take-then-wants.result c.take-then-wants.ensures c.if-wants.true

pub returns-else-wants-clause-steps : goal.returns-else-wants-clause-steps
returns-else-wants-clause-steps g c =
    let l = rw c.in_default.is at c.take.ensures in
    left-ended_all g.I.Item.Ord.cmp g.I.Iterator.can_next g.I.Iterator.remaining g.I.Iterator.next_gives g.J.Iterator.can_next g.J.Iterator.remaining g.J.Iterator.next_gives c.args.wants c.walk.invariant l c.if-wants.false

pub returns-then-wants-2-clause-steps : goal.returns-then-wants-2-clause-steps
returns-then-wants-2-clause-steps g c =
    let l = rw c.in-Some.is at c.take.ensures in
    let r = rw c.in_default-take.is at c.take-in-walk.ensures in
    right-ended g.I.Item.Ord.cmp g.I.Iterator.can_next g.I.Iterator.remaining g.I.Iterator.next_gives g.J.Iterator.can_next g.J.Iterator.remaining g.J.Iterator.next_gives c.args.wants c.walk.invariant l r c.if-wants-2.true

pub returns-else-wants-2-clause-steps : goal.returns-else-wants-2-clause-steps
returns-else-wants-2-clause-steps g c =
    let l = rw c.in-Some.is at c.take.ensures in
    let r = rw c.in_default-take.is at c.take-in-walk.ensures in
    right-ended_all g.I.Item.Ord.cmp g.I.Iterator.can_next g.I.Iterator.remaining g.I.Iterator.next_gives g.J.Iterator.can_next g.J.Iterator.remaining g.J.Iterator.next_gives c.args.wants c.walk.invariant l r c.if-wants-2.false

pub returns-then-wants-3-clause-steps : goal.returns-then-wants-3-clause-steps
returns-then-wants-3-clause-steps g c =
    let l = rw c.in-Some.is at c.take.ensures in
    let r = rw c.in-Some-take.is at c.take-in-walk.ensures in
    less-gives g.I.Item.Ord.cmp g.I.Iterator.can_next g.I.Iterator.remaining g.I.Iterator.next_gives g.J.Iterator.can_next g.J.Iterator.remaining g.J.Iterator.next_gives c.args.wants c.walk.invariant l r c.put_back.ensures (sym c.cmp.ensures ∙ c.in-Less.is) c.if-wants-3.true

pub walk-preserved-in-Less-1 : goal.walk-preserved-in-Less-1
walk-preserved-in-Less-1 g c =
    let l = rw c.in-Some.is at c.take.ensures in
    let r = rw c.in-Some-take.is at c.take-in-walk.ensures in
    less-on g.I.Item.Ord.cmp g.I.Iterator.can_next g.I.Iterator.remaining g.I.Iterator.next_gives g.J.Iterator.can_next g.J.Iterator.remaining g.J.Iterator.next_gives c.args.wants c.walk.invariant l r c.put_back.ensures (sym c.cmp.ensures ∙ c.in-Less.is) c.if-wants-3.false

pub returns-then-wants-4-clause-steps : goal.returns-then-wants-4-clause-steps
returns-then-wants-4-clause-steps g c =
    let l = rw c.in-Some.is at c.take.ensures in
    let r = rw c.in-Some-take.is at c.take-in-walk.ensures in
    equal-gives g.I.Item.Ord.cmp g.I.Iterator.can_next g.I.Iterator.remaining g.I.Iterator.next_gives g.J.Iterator.can_next g.J.Iterator.remaining g.J.Iterator.next_gives c.args.wants c.walk.invariant l r (sym c.cmp.ensures ∙ c.in-Equal.is) c.if-wants-4.true

pub walk-preserved-in-Equal-1 : goal.walk-preserved-in-Equal-1
walk-preserved-in-Equal-1 g c =
    let l = rw c.in-Some.is at c.take.ensures in
    let r = rw c.in-Some-take.is at c.take-in-walk.ensures in
    equal-on g.I.Item.Ord.cmp g.I.Iterator.can_next g.I.Iterator.remaining g.I.Iterator.next_gives g.J.Iterator.can_next g.J.Iterator.remaining g.J.Iterator.next_gives c.args.wants c.walk.invariant l r (sym c.cmp.ensures ∙ c.in-Equal.is) c.if-wants-4.false

pub returns-then-wants-5-clause-steps : goal.returns-then-wants-5-clause-steps
returns-then-wants-5-clause-steps g c =
    let l = rw c.in-Some.is at c.take.ensures in
    let r = rw c.in-Some-take.is at c.take-in-walk.ensures in
    greater-gives g.I.Item.Ord.cmp g.I.Iterator.can_next g.I.Iterator.remaining g.I.Iterator.next_gives g.J.Iterator.can_next g.J.Iterator.remaining g.J.Iterator.next_gives c.args.wants c.walk.invariant l r c.put_back-in-Greater.ensures (sym c.cmp.ensures ∙ c.in-Greater.is) c.if-wants-5.true

pub walk-preserved : goal.walk-preserved
walk-preserved g c =
    let l = rw c.in-Some.is at c.take.ensures in
    let r = rw c.in-Some-take.is at c.take-in-walk.ensures in
    greater-on g.I.Item.Ord.cmp g.I.Iterator.can_next g.I.Iterator.remaining g.I.Iterator.next_gives g.J.Iterator.can_next g.J.Iterator.remaining g.J.Iterator.next_gives c.args.wants c.walk.invariant l r c.put_back-in-Greater.ensures (sym c.cmp.ensures ∙ c.in-Greater.is) c.if-wants-5.false
