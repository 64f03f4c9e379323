use Rattle.std.proofs.Common.{sym}
use Rattle.sorted_vector_map.proofs.PutLemmas.{has_put}
use Rattle.sorted_vector_map.proofs.map.SortedVectorMap.entry.Goals as goal

pub returns-in-Ok-clause-found : goal.returns-in-Ok-clause-found
returns-in-Ok-clause-found g c w = has_put g.K.Ord.cmp g.met.K.Ord.total _ _ _ w (sym (c.in-Ok.ensures.found.puts w))

pub returns-clause-found : goal.returns-clause-found
returns-clause-found g c w = has_put g.K.Ord.cmp g.met.K.Ord.total _ _ _ w (sym (c.in-Err.ensures.missing.puts w))
