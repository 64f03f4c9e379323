use Rattle.std.proofs.Common.{refl}
use Rattle.sorted_iter.proofs.PairRuns.{paired-runs, paired-lists}
use Rattle.sorted_iter.proofs.marks.SortedIterator.pairs.Goals as goal

pub returns-clause-runs : goal.returns-clause-runs
returns-clause-runs g c = paired-runs g.Self.Iterator.next_gives _ c.args.self refl

pub returns-clause-lists : goal.returns-clause-lists
returns-clause-lists g c xs h = paired-lists g.Self.Iterator.next_gives _ c.args.self refl xs h
