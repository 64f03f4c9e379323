-- What a contract sees of a set in a sorted vector.
use Rattle.std.specs.Prelude.{ℕ, List}

-- its items in order, and how many more it can take without memory
pub record Content (T : Type 0) : Type 0 where
  pub items : List T
  pub spare : ℕ
