use Rattle.std.specs.Map.Iter.{deref}
use Rattle.sorted_vector_map.proofs.ComingLemmas.{parts_come_by_reference}
use Rattle.sorted_vector_map.proofs.map.SortedVectorMap.values.Goals as goal

pub returns : goal.returns
returns g c = record {
  values =
      parts_come_by_reference deref (λ (p : g.row.K.Denot × g.row.V.Denot). p.1) _ _ _ c.iter.ensures.pairs.all c.iter.ensures.pairs.countable c.of.ensures;
}
