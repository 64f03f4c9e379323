use Rattle.sorted_iter.specs.Streams.{union_sides}
use Rattle.sorted_iter.proofs.StreamLemmas.{sides-ascend, union-runs, union-lists}
use Rattle.sorted_iter.proofs.marks.SortedIterator.union.Goals as goal

pub returns-clause-in_order : goal.returns-clause-in_order
returns-clause-in_order g c = sides-ascend _ c.new.ensures (g.met.Self.SortedByItem.sorted _ c.requires.left) (g.met.J.SortedByItem.sorted _ c.requires.right)

pub returns-clause-runs : goal.returns-clause-runs
returns-clause-runs g c = union-runs g.met.Self.Item.Ord.total g.Self.Iterator.next_gives g.J.Iterator.next_gives union_sides _ _ _ c.new.ensures

pub returns-clause-lists : goal.returns-clause-lists
returns-clause-lists g c = union-lists g.met.Self.Item.Ord.total g.Self.Iterator.next_gives g.J.Iterator.next_gives union_sides _ _ _ c.new.ensures
