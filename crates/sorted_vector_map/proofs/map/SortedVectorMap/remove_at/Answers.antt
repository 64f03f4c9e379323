use Rattle.std.proofs.Common.{◌≡◌, ap}
use Rattle.ordered_lists.specs.Lists.{by_key}
use Rattle.ordered_lists.proofs.PairLemmas.{remove_ascends}
use Rattle.ordered_lists.proofs.SearchLemmas.{reads}
use Rattle.sorted_vector_map.specs.Content.{Content}
use Rattle.sorted_vector_map.proofs.map.SortedVectorMap.remove_at.Goals as goal

pub invariant_of-self : goal.invariant_of-self
invariant_of-self g c = rw c.remove.ensures.items (remove_ascends (by_key g.K.Ord.cmp) _ _ c.self.invariant)

pub returns-clause-taken : goal.returns-clause-taken
returns-clause-taken g c =
    let same : c.self.inside.items.items ≡ c.args.self.now.pairs = ap (λ (m : Content g.row.K.Denot g.row.V.Denot). m.pairs) c.self.view_is in
    reads _ _ same _ c.remove.result c.requires c.remove.ensures.value
