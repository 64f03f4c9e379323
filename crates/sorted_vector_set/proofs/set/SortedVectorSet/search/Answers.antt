use Rattle.ordered_lists.proofs.SearchLemmas.{searched}
use Rattle.sorted_vector_set.proofs.set.SortedVectorSet.search.Goals as goal

pub returns : goal.returns
returns g c =
    let facts = c.binary_search.ensures in
    rw (← c.self.view_is, ← c.deref.ensures.value)
    (searched (λ x. x) g.T.Ord.cmp g.met.T.Ord.total _ (rw c.deref.ensures.value c.self.invariant) c.args.q.now _ facts.bound facts.position)
