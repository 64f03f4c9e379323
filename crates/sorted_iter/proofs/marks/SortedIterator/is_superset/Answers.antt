use Rattle.sorted_iter.specs.Streams.{difference_steps}
use Rattle.sorted_iter.proofs.TellLemmas.{within-runs, within-lists, around-runs, around-lists}
use Rattle.sorted_iter.proofs.marks.SortedIterator.is_superset.Goals as goal

pub returns-clause-runs : goal.returns-clause-runs
returns-clause-runs g c = around-runs g.Self.Item.Ord.cmp g.Self.Iterator.next_gives c.args.self g.J.Iterator.next_gives c.args.other (within-runs g.Self.Item.Ord.cmp (difference_steps g.Self.Item.Ord.cmp g.J.Iterator.next_gives g.Self.Iterator.next_gives) _ g.J.Iterator.next_gives c.args.other g.Self.Iterator.next_gives c.args.self c.next.ensures.steps c.is_none.ensures c.difference-missing.ensures.runs)

pub returns-clause-lists : goal.returns-clause-lists
returns-clause-lists g c = around-lists g.Self.Item.Ord.cmp g.Self.Iterator.next_gives c.args.self g.J.Iterator.next_gives c.args.other (within-lists g.Self.Item.Ord.cmp (difference_steps g.Self.Item.Ord.cmp g.J.Iterator.next_gives g.Self.Iterator.next_gives) _ g.J.Iterator.next_gives c.args.other g.Self.Iterator.next_gives c.args.self c.next.ensures.steps c.is_none.ensures c.difference-missing.ensures.lists)
