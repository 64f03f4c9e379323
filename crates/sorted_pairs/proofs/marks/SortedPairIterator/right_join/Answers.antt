use Rattle.sorted_pairs.specs.JoinStreams.{right_join_sides}
use Rattle.sorted_pairs.proofs.JoinLemmas.{sides-ascend, right_join-runs, right_join-lists}
use Rattle.sorted_pairs.proofs.marks.SortedPairIterator.right_join.Goals as goal

pub returns-clause-in_order : goal.returns-clause-in_order
returns-clause-in_order g c = sides-ascend g.K.Ord.cmp _ c.new.ensures (g.met.Self.SortedByKey.sorted _ c.requires.left) (g.met.J.SortedByKey.sorted _ c.requires.right)

pub returns-clause-runs : goal.returns-clause-runs
returns-clause-runs g c = right_join-runs g.met.K.Ord.total g.Self.Iterator.next_gives g.J.Iterator.next_gives right_join_sides _ _ _ c.new.ensures

pub returns-clause-lists : goal.returns-clause-lists
returns-clause-lists g c = right_join-lists g.met.K.Ord.total g.Self.Iterator.next_gives g.J.Iterator.next_gives right_join_sides _ _ _ c.new.ensures
