use Rattle.rule_table.proofs.HolderLemmas.{winner_is_greatest}
use Rattle.rule_table.proofs.laws.winner_is_greatest.Goals as goal

pub returns : goal.returns
returns c = winner_is_greatest
