-- Rules in order, as ranges of numbers with their decisions, and which of them decides at a number.
use Rattle.std.specs.Prelude.{◌≡◌, ℕ, ◌^◌, ◌-◌, ℤ, pos, ◌≤ℤ◌, List, map, Option, Some}
use Rattle.element_core.specs.Numberings.{unsigned}
use Rattle.number_line.specs.Rows.{with_places, value_of_place}
use Rattle.range_map.specs.Range.{in_numbers}
use Rattle.blaze_joins.specs.LastValue.{last_value_at}
use Rattle.rule_table.specs.declared.rule.Rule.{Rule}
use Rattle.rule_table.specs.declared.rule.Decision.{Decision}

-- each rule's first and last number, and its decision
abbrev pub rules_in_numbers : List Rule → List ((ℤ × ℤ) × Decision)
rules_in_numbers rules = map (λ rule. (in_numbers (unsigned 32) rule.addresses, rule.decision)) rules

-- the place, counted from 0, of the last rule that holds x, or none
abbrev pub winner : {D : Type 0} → List ((ℤ × ℤ) × D) → ℤ → Option ℕ
winner rules x = last_value_at (with_places 0 rules) x

-- the decision at x is the winner's, or none
abbrev pub decision_at : {D : Type 0} → List ((ℤ × ℤ) × D) → ℤ → Option D
decision_at rules x = value_of_place rules (winner rules x)

-- x is an address
pub record IsAddress (x : ℤ) : Type 0 where
  pub low : pos 0 ≤ℤ x
  pub high : x ≤ℤ pos (2 ^ 32 - 1)

-- the rule at a place is the winner of no address
abbrev pub IsDead : {D : Type 0} → List ((ℤ × ℤ) × D) → ℕ → Type 0
IsDead rules i = (x : ℤ) → IsAddress x → winner rules x ≡ Some i → ⊥

-- it is the winner of some address
abbrev pub Wins : {D : Type 0} → List ((ℤ × ℤ) × D) → ℕ → Type 0
Wins rules i = (x : ℤ) × IsAddress x × (winner rules x ≡ Some i)
