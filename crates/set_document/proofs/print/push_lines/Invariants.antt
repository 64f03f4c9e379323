-- What is written, and what the lines left will add, is the whole.
use Rattle.std.proofs.Common.{◌≡◌, ◌++◌, drop}
use Rattle.set_document.specs.Answer.{lines_text}
use Rattle.set_document.specs.Lines.{line_lists_of}
use Rattle.set_document.proofs.print.push_lines.Given as goal

abbrev pub invariant-loop-line : goal.invariant-loop-line
invariant-loop-line l = l.out.items ++ lines_text (line_lists_of (drop l.line-index l.lines)) ≡ l.fn.out.items ++ lines_text (line_lists_of l.lines)
