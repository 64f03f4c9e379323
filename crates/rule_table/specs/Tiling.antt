-- The tiling of a stretch of addresses as a list of blocks.
use Rattle.std.specs.Prelude.{ℕ, zero, suc, ◌+◌, ◌-◌, ◌%◌, Bool, ◌&&◌, ◌==◌, nat_le, nat_lt, if◌then◌else◌, List, [], ◌∷◌}
use Rattle.rule_table.specs.Blocks.{size}

-- `at`/n is a block that lies before `end`
abbrev pub is_block_before : ℕ → ℕ → ℕ → Bool
is_block_before end at n = (at % size n == 0) && nat_le (at + size n) end

-- the least n of the last k lengths such that `at`/n is a block that lies before `end`, or 32
abbrev pub least_of : ℕ → ℕ → ℕ → ℕ
least_of zero end at = 32
least_of (suc k) end at = if is_block_before end at (32 - suc k) then 32 - suc k else least_of k end at

-- the least length of a block that begins at `at` and lies before `end`
unfoldable pub least_length : ℕ → ℕ → ℕ
least_length end at = least_of 32 end at

-- the blocks from `at` to right before `end`, each of the least length at its start; as many as `count`
unfoldable pub blocks_from : ℕ → ℕ → ℕ → List (ℕ × ℕ)
blocks_from zero end at = []
blocks_from (suc count) end at =
    if nat_lt at end then (at, least_length end at) ∷ blocks_from count end (at + size (least_length end at)) else []

-- the blocks that tile the addresses from `first` to `last`
abbrev pub tiling : ℕ → ℕ → List (ℕ × ℕ)
tiling first last = blocks_from ((last + 1) - first) (last + 1) first
