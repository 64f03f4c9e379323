use Rattle.rule_table.proofs.LengthLemmas.{IsGreatest, is_greatest, is_least}
use Rattle.rule_table.proofs.blocks.least_length.Goals as goal

greatest : (c : goal.After-min) → IsGreatest c.args.at c.args.end c.min.result
greatest c = rw c.min.ensures (is_greatest c.args.at c.args.end c.ilog2.result c.requires.within c.requires.bound c.ilog2.ensures.power_le c.ilog2.ensures.next_power_gt)

pub overflow_sub-result : goal.overflow_sub-result
overflow_sub-result c = (greatest c).small

pub returns : goal.returns
returns c = is_least c.args.at c.args.end c.min.result (greatest c)
