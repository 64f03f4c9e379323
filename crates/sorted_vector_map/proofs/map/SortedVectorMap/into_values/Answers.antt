use Rattle.std.proofs.Common.{◌≡◌, List, map, ap, ◌∙◌}
use Rattle.sorted_vector_map.specs.Content.{Content}
use Rattle.sorted_vector_map.proofs.ComingLemmas.{comes_by_value}
use Rattle.sorted_vector_map.proofs.map.SortedVectorMap.into_values.Goals as goal

pub returns : goal.returns
returns g c =
    let same : c.self.inside.items.items ≡ c.args.self.pairs = ap (λ (m : Content g.row.K.Denot g.row.V.Denot). m.pairs) c.self.view_is in
    record { values = comes_by_value _ _ (c.of.ensures.all ∙ ap (λ (ps : List (g.row.K.Denot × g.row.V.Denot)). map (λ p. p.1) ps) same) c.of.ensures.countable }
