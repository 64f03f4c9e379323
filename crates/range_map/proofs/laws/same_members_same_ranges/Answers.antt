use Rattle.number_line.proofs.RangeLemmas.{same_list}
use Rattle.range_map.proofs.laws.same_members_same_ranges.Goals as goal

pub returns : goal.returns
returns c = same_list
