use Rattle.std.proofs.Common.{◌≡◌, ap}
use Rattle.ordered_lists.proofs.PairLemmas.{remove_ascends}
use Rattle.ordered_lists.proofs.SearchLemmas.{reads}
use Rattle.sorted_vector_set.specs.Content.{Content}
use Rattle.sorted_vector_set.proofs.set.SortedVectorSet.remove_at.Goals as goal

pub invariant_of-self : goal.invariant_of-self
invariant_of-self g c = rw c.remove.ensures.items (remove_ascends g.T.Ord.cmp _ _ c.self.invariant)

pub returns-clause-taken : goal.returns-clause-taken
returns-clause-taken g c =
    let same : c.self.inside.items.items ≡ c.args.self.now.items = ap (λ (s : Content g.row.T.Denot). s.items) c.self.view_is in
    reads _ _ same _ c.remove.result c.requires c.remove.ensures.value
