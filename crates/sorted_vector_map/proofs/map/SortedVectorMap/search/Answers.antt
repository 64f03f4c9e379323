use Rattle.std.proofs.Common.{rules}
use Rattle.std.proofs.lemmas.Fn.{always_returns_same}
use Rattle.ordered_lists.proofs.PairLemmas.{pair_searched}
use Rattle.sorted_vector_map.proofs.map.SortedVectorMap.search.Goals as goal

pub returns : goal.returns
returns g c =
    let facts = c.binary_search_by.ensures in
    let at = facts.position (λ p. g.K.Ord.cmp p.0 c.args.q.now) (always_returns_same _ _ _ (λ a r f' called. search rules)) in
    rw (← c.self.view_is, ← c.deref.ensures.value)
    (pair_searched g.K.Ord.cmp g.met.K.Ord.total _ (rw c.deref.ensures.value c.self.invariant) c.args.q.now _ facts.bound at)
