use Rattle.ordered_lists.proofs.WalkLemmas.{ascends-union}
use Rattle.sorted_vector_set.proofs.set.SortedVectorSet.union.Goals as goal

pub returns-clause-ascending : goal.returns-clause-ascending
returns-clause-ascending g c = let sides = c.walk_along.ensures.sides in ascends-union g.met.T.Ord.total _ _ sides.0.ascends sides.1.ascends
