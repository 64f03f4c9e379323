-- A source in memory that never fails.
use Rattle.std.specs.Prelude.{ℕ, List}

pub record PlainState : Type 0 where
  -- the bytes left
  pub left : List ℕ
  -- how many bytes were taken
  pub taken : ℕ
