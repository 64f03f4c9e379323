use Rattle.ordered_lists.proofs.WalkLemmas.{ascends-intersection}
use Rattle.sorted_vector_set.proofs.set.SortedVectorSet.intersection.Goals as goal

pub returns-clause-ascending : goal.returns-clause-ascending
returns-clause-ascending g c = let sides = c.walk_along.ensures.sides in ascends-intersection g.met.T.Ord.total _ _ sides.0.ascends
