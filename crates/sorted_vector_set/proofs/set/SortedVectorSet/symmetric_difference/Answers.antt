use Rattle.ordered_lists.proofs.WalkLemmas.{ascends-symmetric_difference}
use Rattle.sorted_vector_set.proofs.set.SortedVectorSet.symmetric_difference.Goals as goal

pub returns-clause-ascending : goal.returns-clause-ascending
returns-clause-ascending g c = let sides = c.walk_along.ensures.sides in ascends-symmetric_difference g.met.T.Ord.total _ _ sides.0.ascends sides.1.ascends
