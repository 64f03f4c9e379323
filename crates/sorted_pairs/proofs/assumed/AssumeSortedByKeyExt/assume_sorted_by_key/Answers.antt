use Rattle.std.proofs.Common.{refl}
use Rattle.sorted_iter.proofs.StreamLemmas.{through-runs, through-lists}
use Rattle.sorted_pairs.specs.AssumedStreams.{assumed_source}
use Rattle.sorted_pairs.proofs.assumed.AssumeSortedByKeyExt.assume_sorted_by_key.Goals as goal

pub returns-clause-runs : goal.returns-clause-runs
returns-clause-runs g c = through-runs assumed_source g.Self.Iterator.next_gives _ c.args.self refl

pub returns-clause-lists : goal.returns-clause-lists
returns-clause-lists g c ps h = through-lists assumed_source g.Self.Iterator.next_gives _ c.args.self refl ps h
