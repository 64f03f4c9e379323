-- What is left of a map whose keys are given one after another, each with its value.
use Rattle.std.specs.Prelude.{ℤ, Option, Some, None, List, [], ◌∷◌}
use Rattle.std.specs.Borrow.{Bor}
use Rattle.element_core.specs.Numbering.{Numbering}
use Rattle.number_line.specs.KeysValues.{keys_values}
use Rattle.range_map.specs.Valued.{pairs_in_numbers}
use Rattle.range_map.specs.declared.map.pair_iter.PairIter.{PairIter}

-- the number of a key with the value behind the reference
abbrev pub key_value : {T V : Type 0} → Numbering T → T × Bor V → ℤ × V
key_value numbers item = (numbers.number item.0, item.1.now)

-- the pairs, of whose first the range was begun if something is left of it
abbrev pub with_begun : {R V : Type 0} → Option R → List (R × V) → List (R × V)
with_begun None rest = rest
with_begun (Some r) [] = []
with_begun (Some r) (p ∷ rest) = (r, p.1) ∷ rest

-- the numbers of the keys still to come, each with its value
abbrev pub pairs_left : {T V : Type 0} → Numbering T → PairIter T V → List (ℤ × V)
pairs_left numbers iter = keys_values (pairs_in_numbers numbers (with_begun iter.begun iter.rest.now))
