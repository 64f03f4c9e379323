use Rattle.std.proofs.Common.{◌≡◌, ap}
use Rattle.ordered_lists.proofs.SearchLemmas.{reads}
use Rattle.sorted_vector_map.specs.Content.{Content}
use Rattle.sorted_vector_map.proofs.map.SortedVectorMap.pair_at.Goals as goal

pub returns : goal.returns
returns g c =
    let same : c.self.inside.items.items ≡ c.args.self.now.pairs = ap (λ (m : Content g.row.K.Denot g.row.V.Denot). m.pairs) c.self.view_is in
    reads _ _ same _ c.index-pair.result.now c.requires c.index-pair.ensures
