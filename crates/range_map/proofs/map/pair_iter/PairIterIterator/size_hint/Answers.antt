use Rattle.range_map.proofs.KeyLemmas.{left_are_fewer}
use Rattle.range_map.proofs.map.pair_iter.PairIterIterator.size_hint.Goals as goal

pub returns-clause-lower : goal.returns-clause-lower
returns-clause-lower g c = λ _. left_are_fewer g.T.Element.numbers c.args.self.now.begun c.args.self.now.rest.now
