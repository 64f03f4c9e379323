use Rattle.sorted_vector_map.proofs.RefillLemmas.{keys-with_values}
use Rattle.sorted_vector_map.proofs.laws.refilled_keeps_keys.Goals as goal

pub returns : goal.returns
returns g c = λ m xs. keys-with_values m.pairs xs
