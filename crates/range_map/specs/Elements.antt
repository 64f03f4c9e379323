-- What is left of a set whose members are given one after another.
use Rattle.std.specs.Prelude.{ℤ, Option, Some, None, List, ◌∷◌}
use Rattle.element_core.specs.Numbering.{Numbering}
use Rattle.number_line.specs.Members.{members}
use Rattle.range_map.specs.Set.{all_in_numbers}
use Rattle.range_map.specs.declared.set.elements.EltIter.{EltIter}

-- the range that was begun, if there is one, before the others
abbrev pub begun_before : {R : Type 0} → Option R → List R → List R
begun_before None rest = rest
begun_before (Some r) rest = r ∷ rest

-- the numbers of the members still to come
abbrev pub members_left : {T : Type 0} → Numbering T → EltIter T → List ℤ
members_left numbers iter = members (all_in_numbers numbers (begun_before iter.begun iter.rest.now))
