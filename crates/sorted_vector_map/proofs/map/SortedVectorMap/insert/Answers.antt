use Rattle.std.proofs.Common.{sym, ◌∙◌}
use Rattle.sorted_vector_map.proofs.PutLemmas.{has_put, holds_put}
use Rattle.sorted_vector_map.proofs.map.SortedVectorMap.insert.Goals as goal

pub returns-in-Ok-clause-found : goal.returns-in-Ok-clause-found
returns-in-Ok-clause-found g c = has_put g.K.Ord.cmp g.met.K.Ord.total _ _ _ _ (c.write_at.ensures.pairs ∙ sym (c.in-Ok.ensures.found.puts c.args.v))

pub returns-in-Ok-clause-holds : goal.returns-in-Ok-clause-holds
returns-in-Ok-clause-holds g c = holds_put g.K.Ord.cmp g.met.K.Ord.total _ _ _ _ (c.write_at.ensures.pairs ∙ sym (c.in-Ok.ensures.found.puts c.args.v))

pub returns-in_ok-insert_at-in-Err-clause-found : goal.returns-in_ok-insert_at-in-Err-clause-found
returns-in_ok-insert_at-in-Err-clause-found g c =
    has_put g.K.Ord.cmp g.met.K.Ord.total _ _ _ _ (c.in_ok-insert_at-in-Err.ensures.pairs ∙ sym (c.in-Err.ensures.missing.puts c.args.v))

pub returns-in_ok-insert_at-in-Err-clause-holds : goal.returns-in_ok-insert_at-in-Err-clause-holds
returns-in_ok-insert_at-in-Err-clause-holds g c =
    holds_put g.K.Ord.cmp g.met.K.Ord.total _ _ _ _ (c.in_ok-insert_at-in-Err.ensures.pairs ∙ sym (c.in-Err.ensures.missing.puts c.args.v))
