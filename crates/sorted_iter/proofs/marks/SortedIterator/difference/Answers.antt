use Rattle.sorted_iter.specs.Streams.{difference_sides}
use Rattle.sorted_iter.proofs.StreamLemmas.{sides-ascend, difference-runs, difference-lists}
use Rattle.sorted_iter.proofs.marks.SortedIterator.difference.Goals as goal

pub returns-clause-in_order : goal.returns-clause-in_order
returns-clause-in_order g c = sides-ascend _ c.new.ensures (g.met.Self.SortedByItem.sorted _ c.requires.left) (g.met.J.SortedByItem.sorted _ c.requires.right)

pub returns-clause-runs : goal.returns-clause-runs
returns-clause-runs g c = difference-runs g.met.Self.Item.Ord.total g.Self.Iterator.next_gives g.J.Iterator.next_gives difference_sides _ _ _ c.new.ensures

pub returns-clause-lists : goal.returns-clause-lists
returns-clause-lists g c = difference-lists g.met.Self.Item.Ord.total g.Self.Iterator.next_gives g.J.Iterator.next_gives difference_sides _ _ _ c.new.ensures
