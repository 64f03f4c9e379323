use Rattle.rule_table.proofs.DeadLemmas.{dead_wins_nowhere}
use Rattle.rule_table.proofs.laws.dead_wins_nowhere.Goals as goal

pub returns : goal.returns
returns c = dead_wins_nowhere
