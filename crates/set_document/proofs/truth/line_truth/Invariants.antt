use Rattle.std.proofs.Common.{◌≡◌, [], reverse}
use Rattle.std.specs.Prelude.{option_copied}
use Rattle.text_lines.specs.Lines.{words}
use Rattle.set_document.specs.Truth.{after_words}
use Rattle.set_document.specs.Lines.{pairs_of}
use Rattle.text_lines.specs.Lines.{left_len}
use Rattle.set_document.proofs.truth.line_truth.Given as goal

abbrev pub invariant-loop-left : goal.invariant-loop-left
invariant-loop-left l = after_words (pairs_of l.done) l.x (reverse l.values.items) (words (option_copied l.left))
    ≡ after_words (pairs_of l.done) l.x [] (words (option_copied l.rest))

abbrev pub decreases-loop-left : goal.decreases-loop-left
decreases-loop-left l = left_len (option_copied l.left)
