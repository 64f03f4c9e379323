use Rattle.std.proofs.Common.{sym}
use Rattle.truth_blocks.proofs.NoteLemmas.{notes_of_block}
use Rattle.truth_blocks.proofs.note.note_block.Goals as goal

pub returns : goal.returns
returns c = rw (c.in_ok-push_picked.ensures) (sym (notes_of_block c.args.word c.changes.result c.args.noted.now.value c.args.noted.now.numbers.items c.args.block.now c.requires.some c.requires.within c.changes.ensures))
