use Rattle.sorted_pairs.specs.ValueLaws.{asks-in_turn}
use Rattle.sorted_pairs.proofs.marks.SortedPairIterator.filter_map_values.Goals as goal

pub returns-clause-calls : goal.returns-clause-calls
returns-clause-calls g c = asks-in_turn g.F.FnMut g.Self.Iterator.next_gives (record { source = c.args.self; f = c.args.f })
