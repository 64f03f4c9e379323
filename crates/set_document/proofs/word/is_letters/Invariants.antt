use Rattle.std.proofs.Common.{◌≡◌, drop}
use Rattle.std.specs.List.{list_all}
use Rattle.set_document.specs.Text.{is_letter}
use Rattle.set_document.proofs.word.is_letters.Given as goal

abbrev pub invariant-loop-c : goal.invariant-loop-c
invariant-loop-c l = list_all is_letter (drop l.c-index l.piece) ≡ list_all is_letter l.piece
