use Rattle.sorted_iter.specs.Streams.{symmetric_difference_sides}
use Rattle.sorted_iter.proofs.StreamLemmas.{sides-ascend, symmetric_difference-runs, symmetric_difference-lists}
use Rattle.sorted_iter.proofs.marks.SortedIterator.symmetric_difference.Goals as goal

pub returns-clause-in_order : goal.returns-clause-in_order
returns-clause-in_order g c = sides-ascend _ c.new.ensures (g.met.Self.SortedByItem.sorted _ c.requires.left) (g.met.J.SortedByItem.sorted _ c.requires.right)

pub returns-clause-runs : goal.returns-clause-runs
returns-clause-runs g c = symmetric_difference-runs g.met.Self.Item.Ord.total g.Self.Iterator.next_gives g.J.Iterator.next_gives symmetric_difference_sides _ _ _ c.new.ensures

pub returns-clause-lists : goal.returns-clause-lists
returns-clause-lists g c = symmetric_difference-lists g.met.Self.Item.Ord.total g.Self.Iterator.next_gives g.J.Iterator.next_gives symmetric_difference_sides _ _ _ c.new.ensures
