use Rattle.std.proofs.Common.{arith}
use Rattle.truth_blocks.proofs.RowLemmas.{first_start}
use Rattle.truth_blocks.proofs.rows.starts_of.Goals as goal

pub returns-then-base-eq0 : goal.returns-then-base-eq0
returns-then-base-eq0 c = λ i p. first_start c.changed-all.result i c.args.base _ (omega arith) (c.changed-all.ensures i p)
