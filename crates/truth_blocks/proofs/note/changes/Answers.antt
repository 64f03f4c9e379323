use Rattle.truth_blocks.proofs.NoteLemmas.{change_bit}
use Rattle.truth_blocks.proofs.note.changes.Goals as goal

pub returns : goal.returns
returns c = λ i p. change_bit c.args.word c.args.before i p
