use Rattle.std.proofs.Common.{ap, ◌∙◌}
use Rattle.std.specs.Map.Iter.{deref_pair}
use Rattle.sorted_vector_map.specs.Content.{Content}
use Rattle.sorted_vector_map.proofs.ComingLemmas.{comes_by_reference}
use Rattle.sorted_vector_map.proofs.map.SortedVectorMap.iter.Goals as goal

pub returns-clause-pairs : goal.returns-clause-pairs
returns-clause-pairs g c =
    comes_by_reference deref_pair _ _ (c.new.ensures.all ∙ c.deref.ensures.value ∙ ap (λ (m : Content g.row.K.Denot g.row.V.Denot). m.pairs) c.self.view_is) c.new.ensures.countable
