use Rattle.std.proofs.Common.{◌≡◌, ◌≤◌, ◌+◌, ◌++◌}
use Rattle.std.specs.Vec.{vec_len, vec_capacity}
use Rattle.std.specs.VecDeque.{deque_len}
use Rattle.std.specs.List.Sorted.{IsStrictlySortedBy}
use Rattle.ordered_lists.specs.Lists.{by_key, sets}
use Rattle.sorted_vector_map.proofs.merge.merge_queues.Given as goal

abbrev pub invariant-loop-pair : goal.invariant-loop-pair
invariant-loop-pair g l = record {
  merged : l.merged.items ++ sets (by_key g.K.Ord.cmp) l.left.items l.right.items ≡ l.initial.merged.items ++ sets (by_key g.K.Ord.cmp) l.initial.left.items l.initial.right.items;
  ascending : IsStrictlySortedBy (by_key g.K.Ord.cmp) l.right.items;
  room : vec_len l.merged + deque_len l.left + deque_len l.right ≤ vec_capacity l.merged;
}

abbrev pub decreases-loop-pair : goal.decreases-loop-pair
decreases-loop-pair g l = deque_len l.left + deque_len l.right
