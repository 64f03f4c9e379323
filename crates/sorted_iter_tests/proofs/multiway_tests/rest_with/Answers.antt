use Rattle.std.specs.Iterator.{IsFinite}
use Rattle.sorted_iter.proofs.MultiwayCallers.{all-of_vec}
use Rattle.sorted_iter.specs.MultiwayLaws.{multi-goes_on}
use Rattle.sorted_iter_tests.proofs.multiway_tests.rest_with.Goals as goal

pub multiway_union-requires-clause-sources : goal.multiway_union-requires-clause-sources
multiway_union-requires-clause-sources g c = λ j e. (tt, tt, all-of_vec (λ it. g.I.Iterator.can_next it × IsFinite (g.I.Iterator.remaining it)) j _ e.0 c.requires.can)

pub multiway_union-requires-clause-in_order : goal.multiway_union-requires-clause-in_order
multiway_union-requires-clause-in_order g c = λ j e. all-of_vec g.I.SortedByItem.in_order j _ e.0 c.requires.ascend

pub union-requires-clause-left : goal.union-requires-clause-left
union-requires-clause-left g c = multi-goes_on g.met.I.Item.Ord.total g.I.Iterator.next_gives _ _ _ c.in_ok-many.ensures.in_order c.next.ensures.steps
