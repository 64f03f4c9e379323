use Rattle.rule_table.proofs.DecisionLemmas.{fewest_segments}
use Rattle.rule_table.proofs.laws.fewest_segments.Goals as goal

pub returns : goal.returns
returns c = fewest_segments
