use Rattle.std.proofs.Common.{rules}
use Rattle.ordered_lists.proofs.StableLemmas.{deduped}
use Rattle.sorted_vector_set.proofs.merge.keep_last.Goals as goal

pub returns-clause-ascending : goal.returns-clause-ascending
returns-clause-ascending g c = (deduped g.T.Ord.cmp g.met.T.Ord.total _ (λ s x k b t x' k' r. search rules) _ _ _ c.dedup_by.ensures.filtered.told c.requires).ascends

pub returns-clause-same : goal.returns-clause-same
returns-clause-same g c = (deduped g.T.Ord.cmp g.met.T.Ord.total _ (λ s x k b t x' k' r. search rules) _ _ _ c.dedup_by.ensures.filtered.told c.requires).same
