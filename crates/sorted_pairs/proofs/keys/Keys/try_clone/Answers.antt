use Rattle.sorted_pairs.proofs.KeyRuns.{keyed-alike}
use Rattle.sorted_pairs.proofs.keys.Keys.try_clone.Goals as goal

pub returns : goal.returns
returns g c = keyed-alike g.I.Iterator.next_gives g.I.Iterator.can_next g.I.Iterator.remaining _ _ (c.requires.alike _ _ c.in_ok-source.ensures.cases)
