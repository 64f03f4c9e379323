use Rattle.sorted_iter.specs.Streams.{intersection_steps}
use Rattle.sorted_iter.proofs.TellLemmas.{disjoint-runs, disjoint-lists}
use Rattle.sorted_iter.proofs.marks.SortedIterator.is_disjoint.Goals as goal

pub returns-clause-runs : goal.returns-clause-runs
returns-clause-runs g c = disjoint-runs g.Self.Item.Ord.cmp (intersection_steps g.Self.Item.Ord.cmp g.Self.Iterator.next_gives g.J.Iterator.next_gives) _ g.Self.Iterator.next_gives c.args.self g.J.Iterator.next_gives c.args.other c.next.ensures.steps c.is_none.ensures c.intersection-shared.ensures.runs

pub returns-clause-lists : goal.returns-clause-lists
returns-clause-lists g c = disjoint-lists g.Self.Item.Ord.cmp (intersection_steps g.Self.Item.Ord.cmp g.Self.Iterator.next_gives g.J.Iterator.next_gives) _ g.Self.Iterator.next_gives c.args.self g.J.Iterator.next_gives c.args.other c.next.ensures.steps c.is_none.ensures c.intersection-shared.ensures.lists
