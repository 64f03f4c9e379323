use Rattle.std.proofs.Common.{length, refl}
use Rattle.rule_table.proofs.DeadLemmas.{answer_is}
use Rattle.rule_table.proofs.table.RuleTable.is_dead.Goals as goal

pub returns-clause-test : goal.returns-clause-test
returns-clause-test c = answer_is c.args.self.now (length c.args.self.now) c.args.index c.mark.result refl c.mark.ensures.none c.mark.ensures.some
