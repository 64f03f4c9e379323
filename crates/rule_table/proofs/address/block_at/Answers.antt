use Rattle.std.proofs.Common.{rules, ◌+◌, ◌-◌, ◌*◌, ◌^◌, ◌%◌, ◌<◌, arith}
use Rattle.rule_table.proofs.AddressLemmas.{block_fits}
use Rattle.rule_table.proofs.address.block_at.Goals as goal

pub overflow_cast-result : goal.overflow_cast-result
overflow_cast-result c =
    let e = c.from-first.ensures in
    let less : c.args.a < 2 ^ 32 = omega arith in
    let h : c.args.a + (1 * 2 ^ (32 - c.args.n) % 2 ^ 64 - 1) < 2 ^ 32 =
    block_fits c.args.a c.args.n c.requires less (rw e at c.if-first-size-ne0.false) in
    rw e (search (rules, h))
