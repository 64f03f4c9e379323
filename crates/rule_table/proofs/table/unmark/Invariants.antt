-- What is marks_left, with the marks that the ranges left will take away, is the whole.
use Rattle.std.proofs.Common.{◌≡◌, length}
use Rattle.element_core.specs.Numberings.{unsigned}
use Rattle.range_map.specs.Valued.{pairs_in_numbers}
use Rattle.rule_table.specs.Winners.{ArePlacesBelow, marks_left}
use Rattle.rule_table.proofs.table.unmark.Given as goal

abbrev pub invariant-loop-place : goal.invariant-loop-place
invariant-loop-place l = record {
  below : ArePlacesBelow (length l.dead) (pairs_in_numbers (unsigned 32) l.place-iterator.rest.now);
  whole : marks_left l.dead (pairs_in_numbers (unsigned 32) l.place-iterator.rest.now) ≡ marks_left l.fn.dead l.winners;
}
