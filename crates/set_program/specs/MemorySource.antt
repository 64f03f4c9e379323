-- A source in memory: what is left in it, and what its next reads do.
use Rattle.std.specs.Prelude.{◌==◌, ℕ, min, Bool, List, length}
use Rattle.std.specs.List.{list_any}
use Rattle.set_program.specs.Counts.{next}

pub record SourceState : Type 0 where
  -- the bytes left
  pub left : List ℕ
  -- the most that a read gives
  pub piece : ℕ
  -- the numbers of the reads that fail
  pub failing : List ℕ
  -- how many reads there were, how many bytes were taken, and how many reads failed
  pub reads : ℕ
  pub taken : ℕ
  pub faults : ℕ

-- the number is in the list
abbrev pub is_listed : List ℕ → ℕ → Bool
is_listed numbers n = list_any (λ y. y == n) numbers

-- the next read fails: its number is listed
abbrev pub read_fails : SourceState → Bool
read_fails source = is_listed source.failing (next source.reads)

-- how many bytes a read gives that doesn't fail, into a buffer of this length
abbrev pub read_count : SourceState → ℕ → ℕ
read_count source room = min (length source.left) (min source.piece room)
