-- A sink in memory: what was written to it, and what its next calls do.
use Rattle.std.specs.Prelude.{◌-◌, ◌||◌, ℕ, min, Bool, List, length, nat_le}
use Rattle.set_program.specs.Counts.{next}
use Rattle.set_program.specs.MemorySource.{is_listed}

pub record SinkState : Type 0 where
  -- the bytes written
  pub written : List ℕ
  -- how many bytes it has room for
  pub room : ℕ
  -- the most that a write takes
  pub piece : ℕ
  -- the numbers of the writes that fail, and whether a finish fails
  pub failing : List ℕ
  pub fail_finish : Bool
  -- how many writes there were
  pub writes : ℕ
  pub finished : Bool
  -- how many writes and finishes failed
  pub faults : ℕ

-- no room is left
abbrev pub is_full : SinkState → Bool
is_full sink = nat_le sink.room (length sink.written)

-- the next write fails: its number is listed, or the room is full
abbrev pub write_fails : SinkState → Bool
write_fails sink = is_listed sink.failing (next sink.writes) || is_full sink

-- how many bytes a write takes that doesn't fail, of a piece of this length
abbrev pub write_count : SinkState → ℕ → ℕ
write_count sink handed = min (sink.room - length sink.written) (min sink.piece handed)
