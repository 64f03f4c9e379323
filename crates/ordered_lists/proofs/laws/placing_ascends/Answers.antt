use Rattle.ordered_lists.proofs.PlaceLemmas.{set_ascends}
use Rattle.ordered_lists.proofs.WalkLemmas.{ascends-add}
use Rattle.ordered_lists.proofs.laws.placing_ascends.Goals as goal

pub returns : goal.returns
returns g c = λ xs x h. (ascends-add g.met.T.Ord.total xs x h, set_ascends g.met.T.Ord.total xs x h)
