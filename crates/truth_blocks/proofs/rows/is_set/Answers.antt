use Rattle.std.proofs.Common.{sym}
use Rattle.truth_blocks.proofs.NoteLemmas.{bit_test}
use Rattle.truth_blocks.proofs.rows.is_set.Goals as goal

pub returns : goal.returns
returns c = sym (bit_test c.args.word c.args.place)
