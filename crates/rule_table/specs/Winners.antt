-- What a table keeps beside its rules.
use Rattle.std.specs.Prelude.{◌≡◌, ℕ, ◌<◌, ◌^◌, ◌-◌, ℤ, pos, Bool, false, nat_eq, List, [], ◌∷◌, length, Some, slice_get, slice_set}
use Rattle.std.specs.Bool.{MatchBool}
use Rattle.number_line.specs.Valued.{value_at, IsCanonicalMap}
use Rattle.rule_table.specs.Rules.{winner, IsAddress, IsDead, Wins}

-- the map has the place of the winner of each address
pub record AreWinners {D : Type 0} (rules : List ((ℤ × ℤ) × D)) (winners : List ((ℤ × ℤ) × ℕ)) : Type 0 where
  pub canonical : IsCanonicalMap nat_eq (pos 0) (pos (2 ^ 32 - 1)) winners
  pub values : (x : ℤ) → IsAddress x → value_at winners x ≡ winner rules x

-- each value of the map is below n
abbrev pub ArePlacesBelow : ℕ → List ((ℤ × ℤ) × ℕ) → Type 0
ArePlacesBelow n [] = Unit {0}
ArePlacesBelow n (p ∷ rest) = (p.1 < n) × ArePlacesBelow n rest

-- the marks that are left, with that of each value of the map taken away
abbrev pub marks_left : List Bool → List ((ℤ × ℤ) × ℕ) → List Bool
marks_left dead [] = dead
marks_left dead (p ∷ rest) = marks_left (slice_set dead p.1 false) rest

-- one mark a rule: true where the rule is dead, and false where it wins
pub record AreDeadMarks {D : Type 0} (rules : List ((ℤ × ℤ) × D)) (dead : List Bool) : Type 0 where
  pub count : length dead ≡ length rules
  pub marks : (i : ℕ) (b : Bool) → slice_get dead i ≡ Some b → MatchBool b (IsDead rules i) (Wins rules i)
