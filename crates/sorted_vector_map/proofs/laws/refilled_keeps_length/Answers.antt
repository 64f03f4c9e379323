use Rattle.sorted_vector_map.proofs.RefillLemmas.{length-with_values}
use Rattle.sorted_vector_map.proofs.laws.refilled_keeps_length.Goals as goal

pub returns : goal.returns
returns g c = λ m xs. length-with_values m.pairs xs
