use Rattle.number_line.proofs.RangeLemmas.{same_list}
use Rattle.number_line.proofs.laws.one_canonical_list.Goals as goal

pub returns : goal.returns
returns c = same_list
