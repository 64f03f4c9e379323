-- What a contract sees of a map in a sorted vector.
use Rattle.std.specs.Prelude.{ℕ, List}

-- its pairs in the order of their keys, and how many more it can take without memory
pub record Content (K V : Type 0) : Type 0 where
  pub pairs : List (K × V)
  pub spare : ℕ
