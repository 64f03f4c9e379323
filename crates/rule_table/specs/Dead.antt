-- Which rules are dead, as a test.
use Rattle.std.specs.Prelude.{ℕ, zero, suc, ◌^◌, ◌-◌, ℤ, pos, ◌+ℤ◌, Bool, not, ◌||◌, nat_eq, nat_lt, if◌then◌else◌, List, length, Option, Some, None}
use Rattle.std.specs.Option.{option_eq}
use Rattle.rule_table.specs.Rules.{winner}

-- f gives i at one of the n + 1 numbers from lo on
unfoldable pub is_given_among : (ℤ → Option ℕ) → ℕ → ℤ → ℕ → Bool
is_given_among f i lo zero = option_eq nat_eq (f lo) (Some i)
is_given_among f i lo (suc n) = option_eq nat_eq (f lo) (Some i) || is_given_among f i (lo +ℤ pos 1) n

-- the rule at a place is the winner of no address
unfoldable pub is_dead : {D : Type 0} → List ((ℤ × ℤ) × D) → ℕ → Bool
is_dead rules i = not (is_given_among (winner rules) i (pos 0) (2 ^ 32 - 1))

-- the same asked of a place, which may be that of no rule
abbrev pub dead_at : {D : Type 0} → List ((ℤ × ℤ) × D) → ℕ → Option Bool
dead_at rules i = if nat_lt i (length rules) then Some (is_dead rules i) else None
