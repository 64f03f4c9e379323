-- What just one side has of the cuts to come is what it had of all.
use Rattle.std.proofs.Common.{◌≡◌, length}
use Rattle.std.specs.Ordering.{int_cmp}
use Rattle.ordered_lists.specs.Lists.{symmetric_difference}
use Rattle.cut_points.proofs.cuts_left.take_lesser.Given as goal

abbrev pub invariant-loop-first : goal.invariant-loop-first
invariant-loop-first g l = symmetric_difference int_cmp l.fn.left l.fn.right ≡ symmetric_difference int_cmp l.left l.right

abbrev pub decreases-loop-first : goal.decreases-loop-first
decreases-loop-first g l = length l.left
