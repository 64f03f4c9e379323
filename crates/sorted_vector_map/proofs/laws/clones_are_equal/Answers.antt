use Rattle.sorted_vector_map.proofs.CloneLemmas.{clones_equal}
use Rattle.sorted_vector_map.proofs.laws.clones_are_equal.Goals as goal

pub returns : goal.returns
returns g c = clones_equal g.K.Clone.is_clone g.V.Clone.is_clone g.K.PartialEq.eq g.V.PartialEq.eq
