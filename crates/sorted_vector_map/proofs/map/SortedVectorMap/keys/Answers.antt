use Rattle.ordered_lists.proofs.PairLemmas.{keys_ascend}
use Rattle.std.specs.Map.Iter.{deref}
use Rattle.sorted_vector_map.proofs.ComingLemmas.{parts_come_by_reference}
use Rattle.sorted_vector_map.proofs.map.SortedVectorMap.keys.Goals as goal

pub returns-clause-keys : goal.returns-clause-keys
returns-clause-keys g c =
    parts_come_by_reference deref (λ (p : g.row.K.Denot × g.row.V.Denot). p.0) _ _ _ c.iter.ensures.pairs.all c.iter.ensures.pairs.countable c.of.ensures

pub returns-clause-ascending : goal.returns-clause-ascending
returns-clause-ascending g c = keys_ascend g.K.Ord.cmp _ c.iter.ensures.ascending
