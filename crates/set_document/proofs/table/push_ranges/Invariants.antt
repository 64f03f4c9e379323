-- What is put in, and what the ranges left will add, is the whole.
use Rattle.std.proofs.Common.{◌≡◌, ◌++◌, map}
use Rattle.set_document.proofs.table.push_ranges.Given as goal

abbrev pub invariant-loop-range : goal.invariant-loop-range
invariant-loop-range l = l.holders ++ map (λ range. (range, l.index)) l.range-iterator ≡ l.fn.holders ++ map (λ range. (range, l.index)) l.initial.range-iterator
