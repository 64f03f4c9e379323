use Rattle.std.proofs.Common.{◌+◌}
use Rattle.std.specs.Iterator.{size}
use Rattle.sorted_iter.specs.Lookahead.{ahead_left}
use Rattle.sorted_pairs.specs.Matches.{across}
use Rattle.sorted_pairs.proofs.MatchSteps.{Walked}
use Rattle.sorted_pairs.proofs.matching.next_match.Given as goal

abbrev pub invariant-walk : goal.invariant-walk
invariant-walk g l = Walked (record {
  cmp = across g.K.Ord.cmp;
  can_left = g.I.Iterator.can_next;
  count_left = g.I.Iterator.remaining;
  firsts = g.I.Iterator.next_gives;
  can_right = g.J.Iterator.can_next;
  count_right = g.J.Iterator.remaining;
  seconds = g.J.Iterator.next_gives;
  wants = l.wants;
}) l.fn.sides l.sides

abbrev pub decreases-walk : goal.decreases-walk
decreases-walk g l = size (ahead_left g.I.Iterator.remaining l.sides.left) + size (ahead_left g.J.Iterator.remaining l.sides.right)
