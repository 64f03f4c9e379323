use Rattle.std.proofs.Common.{◌≡◌, take, min, length, ◌^◌, ◌-◌}
use Rattle.std.specs.Prelude.{sum_by}
use Rattle.set_document.specs.Lines.{line_lists_of}
use Rattle.set_document.proofs.answer.Answer.num_ranges.Given as goal

abbrev pub invariant-loop-line : goal.invariant-loop-line
invariant-loop-line l = l.total ≡ min (sum_by (λ e. length e.1) (line_lists_of (take l.line-index l.line-items))) (2 ^ 64 - 1)
