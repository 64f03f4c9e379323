use Rattle.rule_table.proofs.HoldsLemmas.{block_holds_agreeing}
use Rattle.rule_table.proofs.laws.block_holds_agreeing.Goals as goal

pub returns : goal.returns
returns c = block_holds_agreeing
