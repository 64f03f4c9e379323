use Rattle.std.proofs.Common.{refl}
use Rattle.sorted_pairs.proofs.KeyRuns.{keyed-runs, keyed-lists}
use Rattle.sorted_pairs.proofs.marks.SortedPairIterator.keys.Goals as goal

pub returns-clause-runs : goal.returns-clause-runs
returns-clause-runs g c = keyed-runs g.Self.Iterator.next_gives _ c.args.self refl

pub returns-clause-lists : goal.returns-clause-lists
returns-clause-lists g c ps h = keyed-lists g.Self.Iterator.next_gives _ c.args.self refl ps h
