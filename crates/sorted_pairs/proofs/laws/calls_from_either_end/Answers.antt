use Rattle.sorted_pairs.specs.ValueLaws.{calls-from_either_end}
use Rattle.sorted_pairs.proofs.laws.calls_from_either_end.Goals as goal

pub returns : goal.returns
returns g c = λ s. calls-from_either_end g.I.Iterator.next_gives g.I.DoubleEndedIterator.next_back_gives g.F.FnMut s
