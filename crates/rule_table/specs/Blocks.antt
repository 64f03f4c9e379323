-- Blocks of addresses, and lists of them that tile a stretch of addresses. A block is its first address A and its length n, as in A/n.
use Rattle.std.specs.Prelude.{◌≡◌, ℕ, ◌+◌, ◌-◌, ◌^◌, ◌%◌, ◌≤◌, List, [], ◌∷◌}

-- how many addresses a block of length n holds
abbrev pub size : ℕ → ℕ
size n = 2 ^ (32 - n)

-- A/n is a block: n is at most 32, and the lowest 32 - n bits of A are zero
abbrev pub IsBlock : ℕ × ℕ → Type 0
IsBlock block = (block.1 ≤ 32) × (block.0 % size block.1 ≡ 0)

-- the blocks go from `at` to right before `end` in order, without gap or overlap
abbrev pub Tiles : ℕ → ℕ → List (ℕ × ℕ) → Type 0
Tiles end at [] = at ≡ end
Tiles end at (block ∷ rest) = (block.0 ≡ at) × IsBlock block × Tiles end (at + size block.1) rest

-- n is the least length of a block that begins at `at` and lies before `end`
pub record IsLeastLength (end at n : ℕ) : Type 0 where
  pub block : IsBlock (at, n)
  pub fits : at + size n ≤ end
  pub least : (m : ℕ) → IsBlock (at, m) → at + size m ≤ end → n ≤ m

-- the blocks go from `at` to right before `end`, and each has the least length at its start
abbrev pub IsTiling : ℕ → ℕ → List (ℕ × ℕ) → Type 0
IsTiling end at [] = at ≡ end
IsTiling end at (block ∷ rest) = (block.0 ≡ at) × IsLeastLength end at block.1 × IsTiling end (at + size block.1) rest
