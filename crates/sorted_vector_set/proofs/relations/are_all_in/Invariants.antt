use Rattle.std.proofs.Common.{◌≡◌, drop}
use Rattle.std.specs.List.{list_all}
use Rattle.ordered_lists.specs.Lists.{has}
use Rattle.sorted_vector_set.proofs.relations.are_all_in.Given as goal

abbrev pub invariant-loop-item : goal.invariant-loop-item
invariant-loop-item g l = list_all (has g.T.Ord.cmp l.initial.set.items) (drop l.item-index l.items) ≡ list_all (has g.T.Ord.cmp l.initial.set.items) l.items
