use Rattle.std.proofs.Common.{rules}
use Rattle.std.specs.Ordering.{is_lt}
use Rattle.std.proofs.lemmas.Fn.{always_returns_same}
use Rattle.std.proofs.lemmas.List.Sorted.{ranks_by}
use Rattle.ordered_lists.specs.Lists.{by_key}
use Rattle.ordered_lists.proofs.PairLemmas.{by_key_total}
use Rattle.ordered_lists.proofs.StableLemmas.{sorted_sets}
use Rattle.sorted_vector_map.proofs.merge.sort_by_key.Goals as goal

pub returns-clause-sorted : goal.returns-clause-sorted
returns-clause-sorted g c =
    let cmp = g.K.Ord.cmp in
    let order = ranks_by g.met.K.Ord.total (λ (p : g.row.K.Denot × g.row.V.Denot). p.0) in
    c.in_ok-sort_by.ensures.sorted (λ p q. is_lt (cmp p.0 q.0)) order (always_returns_same _ _ _ (λ a r f' called. search rules))

pub returns-clause-same : goal.returns-clause-same
returns-clause-same g c l ascending =
    let cmp = g.K.Ord.cmp in
    let order = ranks_by g.met.K.Ord.total (λ (p : g.row.K.Denot × g.row.V.Denot). p.0) in
    sorted_sets (by_key cmp) (by_key_total g.met.K.Ord.total) l _ _ ascending (c.in_ok-sort_by.ensures.stable (λ p q. is_lt (cmp p.0 q.0)) order (always_returns_same _ _ _ (λ a r f' called. search rules)))
