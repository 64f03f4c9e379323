use Rattle.std.proofs.Common.{◌∙◌, subst}
use Rattle.std.specs.Ordering.{is_lt}
use Rattle.ordered_lists.specs.Search.{IsCutAt}
use Rattle.ordered_lists.proofs.PairLemmas.{same_some}
use Rattle.ordered_lists.proofs.StableLemmas.{sets_behind}
use Rattle.sorted_vector_set.proofs.set.SortedVectorSet.place_under.Goals as goal

pub returns-in-Ok-clause-stays : goal.returns-in-Ok-clause-stays
returns-in-Ok-clause-stays g c l =
    sets_behind g.T.Ord.cmp g.met.T.Ord.total c.args.self.now.items _ l c.in-Ok.at c.requires (λ y is.
    subst (λ (z : g.row.T.Denot). IsCutAt (λ (x : g.row.T.Denot). is_lt (g.T.Ord.cmp x z)) c.args.self.now.items c.in-Ok.at)
    (same_some _ _ (c.in-Some.ensures.value ∙ is)) c.in-Ok.ensures.found.below)

pub returns-in-Err-clause-stays : goal.returns-in-Err-clause-stays
returns-in-Err-clause-stays g c l =
    sets_behind g.T.Ord.cmp g.met.T.Ord.total c.args.self.now.items _ l c.in-Err.at c.requires (λ y is.
    subst (λ (z : g.row.T.Denot). IsCutAt (λ (x : g.row.T.Denot). is_lt (g.T.Ord.cmp x z)) c.args.self.now.items c.in-Err.at)
    (same_some _ _ (c.in-Some.ensures.value ∙ is)) c.in-Err.ensures.missing.below)
