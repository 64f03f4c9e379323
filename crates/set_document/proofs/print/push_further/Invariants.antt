-- What is written, and what the ranges left will add, is the whole.
use Rattle.std.proofs.Common.{◌≡◌, ◌++◌}
use Rattle.set_document.specs.Answer.{further_text}
use Rattle.set_document.proofs.print.push_further.Given as goal

abbrev pub invariant-loop-range : goal.invariant-loop-range
invariant-loop-range l = l.out.items ++ further_text l.range-iterator ≡ l.fn.out.items ++ further_text l.initial.range-iterator
