-- The places so far, and those of the groups left, are the whole.
use Rattle.std.proofs.Common.{◌≡◌, ◌++◌, length, w64}
use Rattle.element_core.specs.Numberings.{signed}
use Rattle.number_line.specs.Rows.{with_places}
use Rattle.range_map.specs.Valued.{pairs_in_numbers}
use Rattle.set_document.proofs.table.group_indices.Given as goal

abbrev pub invariant-loop-range : goal.invariant-loop-range
invariant-loop-range l = l.indices.items ++ with_places (length l.indices.items) (pairs_in_numbers (signed w64) l.range-iterator.rest.now) ≡ with_places 0 l.groups
