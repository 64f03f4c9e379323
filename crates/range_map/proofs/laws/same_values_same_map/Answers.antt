use Rattle.number_line.proofs.ValuedLemmas.{same_values_same_list}
use Rattle.range_map.proofs.laws.same_values_same_map.Goals as goal

pub returns : goal.returns
returns g c = same_values_same_list g.V.PartialEq.eq g.met.V.Eq.laws
