-- Counts, which never fall and stay at their last value, and what a call on a device does to them.
use Rattle.std.specs.Prelude.{◌≡◌, ◌+◌, ◌<◌, ◌≤◌, ℕ, min, IfOk, OnErr, OnOk, Result}

-- the last value of a count
abbrev pub last_count : ℕ
last_count = 18446744073709551615

-- the count after n more; it stays at its last value
abbrev pub more : ℕ → ℕ → ℕ
more count n = min (count + n) last_count

-- the count after one more
abbrev pub next : ℕ → ℕ
next count = more count 1

-- the count rose by n or more, or stands at its last value
abbrev pub RoseBy : ℕ → ℕ → ℕ → Type 0
RoseBy n before now = more before n ≤ now

-- the count rose, or stands at its last value
abbrev pub Rose : ℕ → ℕ → Type 0
Rose before now = next before ≤ now

-- the count neither rose nor stands at its last value
abbrev pub NotRose : ℕ → ℕ → Type 0
NotRose before now = now < next before

-- a count of faults over one call: `Err` only where it rose, and `Ok` leaves it as it was
pub record HasCause {T E : Type 0} (before now : ℕ) (result : Result T E) : Type 0 where
  pub later : before ≤ now
  pub failed : OnErr result (Rose before now)
  pub kept : OnOk result (now ≡ before)

-- a count of bytes over one read: n more at `Ok(n)`, and none at `Err`
pub record CountsTaken {E : Type 0} (before now : ℕ) (result : Result ℕ E) : Type 0 where
  pub later : before ≤ now
  pub ok : IfOk result (λ n. now ≡ more before n)
  pub err : OnErr result (now ≡ before)
