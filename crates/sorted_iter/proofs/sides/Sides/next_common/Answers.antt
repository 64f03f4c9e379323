use Rattle.std.proofs.Common.{sym}
use Rattle.sorted_iter.proofs.CommonSteps.{in_hand, right-none, less-takes, less-ends, equal-ends, greater-takes, greater-ends}
use Rattle.sorted_iter.proofs.sides.Sides.next_common.Goals as goal

pub returns-in_err-y-clause-steps : goal.returns-in_err-y-clause-steps
returns-in_err-y-clause-steps g c = rw c.from_residual-in_err-y.ensures (right-none g.I.Item.Ord.cmp c.requires c.in_ok-x.ensures c.in_err-y.ensures)

pub walk-init : goal.walk-init
walk-init g c = in_hand g.I.Item.Ord.cmp c.requires c.in_ok-x.ensures c.in_ok-y.ensures

pub returns-in_err-x-in-Less-clause-steps : goal.returns-in_err-x-in-Less-clause-steps
returns-in_err-x-in-Less-clause-steps g c = rw c.from_residual-in_err-x-in-Less.ensures (less-ends c.walk.invariant (sym c.in-Less.ensures) c.in_err-x-in-Less.ensures)

pub walk-preserved-in-Less : goal.walk-preserved-in-Less
walk-preserved-in-Less g c = less-takes c.walk.invariant (sym c.in-Less.ensures) c.in_ok-x-in-Less.ensures

pub returns-in-Equal-clause-steps : goal.returns-in-Equal-clause-steps
returns-in-Equal-clause-steps g c = equal-ends c.walk.invariant (sym c.in-Equal.ensures)

pub returns-in_err-y-in-Greater-clause-steps : goal.returns-in_err-y-in-Greater-clause-steps
returns-in_err-y-in-Greater-clause-steps g c = rw c.from_residual-in_err-y-in-Greater.ensures (greater-ends c.walk.invariant (sym c.in-Greater.ensures) c.in_err-y-in-Greater.ensures)

pub walk-preserved : goal.walk-preserved
walk-preserved g c = greater-takes c.walk.invariant (sym c.in-Greater.ensures) c.in_ok-y-in-Greater.ensures
