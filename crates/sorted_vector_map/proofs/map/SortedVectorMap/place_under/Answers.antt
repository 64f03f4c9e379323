use Rattle.std.proofs.Common.{◌∙◌, subst}
use Rattle.ordered_lists.specs.Lists.{by_key}
use Rattle.ordered_lists.specs.Search.{IsCutAt}
use Rattle.std.specs.Ordering.{is_lt}
use Rattle.ordered_lists.proofs.PairLemmas.{by_key_total, same_some}
use Rattle.ordered_lists.proofs.StableLemmas.{sets_behind}
use Rattle.sorted_vector_map.proofs.map.SortedVectorMap.place_under.Goals as goal

pub returns-in-Ok-clause-stays : goal.returns-in-Ok-clause-stays
returns-in-Ok-clause-stays g c l =
    sets_behind (by_key g.K.Ord.cmp) (by_key_total g.met.K.Ord.total) c.args.self.now.pairs _ l c.in-Ok.at c.requires (λ y is.
    subst (λ (z : g.row.K.Denot × g.row.V.Denot). IsCutAt (λ (x : g.row.K.Denot × g.row.V.Denot). is_lt (g.K.Ord.cmp x.0 z.0)) c.args.self.now.pairs c.in-Ok.at)
    (same_some _ _ (c.in-Some.ensures.value ∙ is)) c.in-Ok.ensures.found.found.below)

pub returns-in-Err-clause-stays : goal.returns-in-Err-clause-stays
returns-in-Err-clause-stays g c l =
    sets_behind (by_key g.K.Ord.cmp) (by_key_total g.met.K.Ord.total) c.args.self.now.pairs _ l c.in-Err.at c.requires (λ y is.
    subst (λ (z : g.row.K.Denot × g.row.V.Denot). IsCutAt (λ (x : g.row.K.Denot × g.row.V.Denot). is_lt (g.K.Ord.cmp x.0 z.0)) c.args.self.now.pairs c.in-Err.at)
    (same_some _ _ (c.in-Some.ensures.value ∙ is)) c.in-Err.ensures.missing.missing.below)
