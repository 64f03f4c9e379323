use Rattle.std.proofs.Common.{◌≡◌, ◌≤◌, ◌+◌, ◌++◌}
use Rattle.std.specs.Vec.{vec_len, vec_capacity}
use Rattle.std.specs.VecDeque.{deque_len}
use Rattle.std.specs.List.Sorted.{IsStrictlySortedBy}
use Rattle.ordered_lists.specs.Lists.{sets}
use Rattle.sorted_vector_set.proofs.merge.merge_queues.Given as goal

abbrev pub invariant-loop-item : goal.invariant-loop-item
invariant-loop-item g l = record {
  merged : l.merged.items ++ sets g.T.Ord.cmp l.left.items l.right.items ≡ l.initial.merged.items ++ sets g.T.Ord.cmp l.initial.left.items l.initial.right.items;
  ascending : IsStrictlySortedBy g.T.Ord.cmp l.right.items;
  room : vec_len l.merged + deque_len l.left + deque_len l.right ≤ vec_capacity l.merged;
}

abbrev pub decreases-loop-item : goal.decreases-loop-item
decreases-loop-item g l = deque_len l.left + deque_len l.right
