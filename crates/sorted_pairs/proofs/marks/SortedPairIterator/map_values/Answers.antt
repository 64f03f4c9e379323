use Rattle.sorted_pairs.specs.ValueLaws.{calls-in_turn}
use Rattle.sorted_pairs.proofs.marks.SortedPairIterator.map_values.Goals as goal

pub returns-clause-calls : goal.returns-clause-calls
returns-clause-calls g c = calls-in_turn g.Self.Iterator.next_gives g.F.FnMut (record { source = c.args.self; f = c.args.f })
