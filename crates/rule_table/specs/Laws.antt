-- What holds of tilings, of the winner, of dead rules and of the segments.
use Rattle.std.specs.Prelude.{◌≡◌, ℕ, ◌+◌, ◌-◌, ◌/◌, ◌^◌, ◌<◌, ◌≤◌, ◌↔◌, ℤ, pos, true, List, length, Some, None, slice_get}
use Rattle.std.specs.Bool.{MatchBool}
use Rattle.std.specs.Option.{option_eq}
use Rattle.number_line.specs.Ranges.{lies_in}
use Rattle.number_line.specs.Segments.{IsCut, IsCover}
use Rattle.rule_table.specs.Blocks.{size, IsBlock, Tiles, IsTiling}
use Rattle.rule_table.specs.Tiling.{tiling}
use Rattle.rule_table.specs.Rules.{winner, decision_at, IsDead, Wins}
use Rattle.rule_table.specs.Dead.{is_dead}
use Rattle.rule_table.specs.Decisions.{same_decision, decision_segments}
use Rattle.rule_table.specs.declared.rule.Decision.{Decision}

-- no list of blocks that tiles the addresses from `first` to `last` is shorter than the tiling
abbrev pub FewestBlocks : Type 0
FewestBlocks = (first last : ℕ) (blocks : List (ℕ × ℕ)) → first ≤ last → Tiles (last + 1) first blocks
    → length (tiling first last) ≤ length blocks

-- the tiling goes from `first` to `last`, and each of its blocks has the least length at its start
abbrev pub TilingTiles : Type 0
TilingTiles = (first last : ℕ) → first ≤ last → IsTiling (last + 1) first (tiling first last)

-- a block A/n holds the numbers that agree with A in all but the lowest 32 - n bits
abbrev pub BlockHoldsAgreeing : Type 0
BlockHoldsAgreeing = (a n x : ℕ) → IsBlock (a, n) → ((a ≤ x) × (x < a + size n)) ↔ (x / size n ≡ a / size n)

-- the segments cut all addresses where the decision changes, and nowhere else; and no split of all addresses into ranges, with one
-- decision throughout each, is shorter
pub record FewestSegments (rules : List ((ℤ × ℤ) × Decision)) : Type 0 where
  pub cut : IsCut (option_eq same_decision) (decision_at rules) (pos (2 ^ 32 - 1)) (pos 0) (decision_segments rules)
  pub fewest : (cover : List (ℤ × ℤ)) → IsCover (decision_at rules) (pos (2 ^ 32 - 1)) (pos 0) cover
      → length (decision_segments rules) ≤ length cover

abbrev pub SegmentsAreFewest : Type 0
SegmentsAreFewest = (rules : List ((ℤ × ℤ) × Decision)) → FewestSegments rules

module _ (D : Type 0) where
  -- i is the greatest place of a rule that holds x
  pub record IsGreatestHolder (rules : List ((ℤ × ℤ) × D)) (x : ℤ) (i : ℕ) : Type 0 where
    pub rule : (ℤ × ℤ) × D
    pub there : slice_get rules i ≡ Some rule
    pub holds : lies_in rule.0 x ≡ true
    pub greatest : (j : ℕ) (p : (ℤ × ℤ) × D) → slice_get rules j ≡ Some p → lies_in p.0 x ≡ true → j ≤ i

  -- no rule holds x
  abbrev pub IsHeldByNone : List ((ℤ × ℤ) × D) → ℤ → Type 0
  IsHeldByNone rules x = (j : ℕ) (p : (ℤ × ℤ) × D) → slice_get rules j ≡ Some p → lies_in p.0 x ≡ true → ⊥

  -- the winner is the greatest place of a rule that holds x, and there is none only where no rule does
  abbrev pub WinnerIsGreatest : Type 0
  WinnerIsGreatest = (rules : List ((ℤ × ℤ) × D)) (x : ℤ)
      → ((i : ℕ) → winner rules x ≡ Some i → IsGreatestHolder rules x i) × (winner rules x ≡ None → IsHeldByNone rules x)

  -- the test of a dead rule is true where the rule is the winner of no address, and false where it is of some
  abbrev pub DeadWinsNowhere : Type 0
  DeadWinsNowhere = (rules : List ((ℤ × ℤ) × D)) (i : ℕ) → MatchBool (is_dead rules i) (IsDead rules i) (Wins rules i)
