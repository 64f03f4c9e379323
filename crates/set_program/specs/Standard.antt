-- The devices over std: what they are over, and what they count.
use Rattle.std.specs.Prelude.{ℕ, Bool}

pub record StdSourceState (R : Type 0) : Type 0 where
  pub reader : R
  -- how many bytes were taken, and how many reads failed
  pub taken : ℕ
  pub faults : ℕ

pub record StdSinkState (W : Type 0) : Type 0 where
  pub writer : W
  pub finished : Bool
  -- how many writes and finishes failed
  pub faults : ℕ
