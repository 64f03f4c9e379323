use Rattle.ordered_lists.proofs.StableLemmas.{same_by_find}
use Rattle.ordered_lists.proofs.laws.found_alike_is_one.Goals as goal

pub returns : goal.returns
returns g c = same_by_find g.T.Ord.cmp g.met.T.Ord.total
