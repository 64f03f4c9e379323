-- What a function makes of a list of ranges with values that is called once for each, in order and with its state carried on.
use Rattle.std.specs.Prelude.{◌≡◌, ℤ, List}
use Rattle.number_line.specs.Pieces.{Calls, with_answers}

-- `list` is the ranges of the pairs, each with the answer at its value
pub record IsAnswered {F V X : Type 0} (step : F → V → X → F → Type 0) (f : F) (pairs : List ((ℤ × ℤ) × V))
    (list : List ((ℤ × ℤ) × X)) : Type 0 where
  pub answers : List X
  pub last : F
  pub calls : Calls step f pairs answers last
  pub is : list ≡ with_answers pairs answers
