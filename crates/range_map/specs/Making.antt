-- A map that is being made.
use Rattle.std.specs.Prelude.{ℕ, ℤ, List}

-- the ranges with their values so far, and how many more there is room for
pub record Making (V : Type 0) : Type 0 where
  pub list : List ((ℤ × ℤ) × V)
  pub room : ℕ
