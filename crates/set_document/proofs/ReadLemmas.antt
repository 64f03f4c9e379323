-- What is read at a place of an answer.
use Rattle.std.proofs.Common.{◌≡◌, List, [], ◌∷◌, refl, ap, w64}
use Rattle.std.specs.Prelude.{ℤ}
use Rattle.element_core.specs.Numberings.{signed}
use Rattle.range_map.specs.Valued.{pairs_in_numbers}

-- the ranges of the numbers of a document are those in numbers
pub numbers_are : {V : Type 0} (pairs : List ((ℤ × ℤ) × V)) → pairs_in_numbers (signed w64) pairs ≡ pairs
numbers_are [] = refl
numbers_are (p ∷ pairs) = ap (λ rest. p ∷ rest) (numbers_are pairs)
