-- The tiling as a list is the one tiling by greatest blocks.
use Rattle.std.proofs.Common.{◌≡◌, ℕ, zero, suc, ◌+◌, ◌-◌, ◌%◌, ◌≤◌, ◌<◌, List, [], ◌∷◌, refl, arith}
use Rattle.std.specs.Prelude.{true, false, nat_lt}
use Rattle.std.proofs.lemmas.Nat.{pow_pos}
use Rattle.number_line.proofs.PlacedLemmas.{by_cases}
use Rattle.rule_table.specs.Blocks.{size, IsBlock, IsLeastLength, IsTiling}
use Rattle.rule_table.specs.Tiling.{is_block_before, least_of, least_length, blocks_from, tiling}

passes : (end at n : ℕ) → at % size n ≡ 0 → at + size n ≤ end → is_block_before end at n ≡ true
passes end at n e h = grind arith

passed : (end at n : ℕ) → is_block_before end at n ≡ true → (at % size n ≡ 0) × (at + size n ≤ end)
passed end at n e = (grind arith, grind arith)

is_least_of : (k end at n : ℕ) → IsBlock (at, n) → at + size n ≤ end → ((m : ℕ) → IsBlock (at, m) → at + size m ≤ end → n ≤ m) → 32 - k ≤ n → k ≤ 32 → n ≡ least_of k end at
is_least_of zero end at n b f least low high = let b0 = b.0 in omega arith
is_least_of (suc k) end at n b f least low high = by_cases (is_block_before end at (32 - suc k))
    (λ e.
    let p = passed end at (32 - suc k) e in
    let h : n ≤ 32 - suc k = least (32 - suc k) (omega arith, p.0) p.1 in
    rw e (omega arith))
    (λ e.
    let other : n ≡ 32 - suc k → ⊥ = λ same. (let t : is_block_before end at (32 - suc k) ≡ true = rw (← same) (passes end at n b.1 f) in cc) in
    let above : 32 - k ≤ n = omega arith in
    rw e (is_least_of k end at n b f least above (omega arith)))

is_least_length : (end at n : ℕ) → IsLeastLength end at n → n ≡ least_length end at
unfolding least_length
is_least_length end at n l = is_least_of 32 end at n l.block l.fits l.least (omega arith) (omega arith)

pub tiling_is : (count end at : ℕ) (list : List (ℕ × ℕ)) → IsTiling end at list → end - at ≤ count → list ≡ blocks_from count end at
unfolding blocks_from
tiling_is zero end at [] t h = refl
tiling_is (suc count) end at [] t h = let e : nat_lt at end ≡ false = grind arith in rw e refl
tiling_is zero end at (b ∷ rest) t h = let p = pow_pos (32 - b.1) in let f = t.1.fits in absurd (omega arith)
tiling_is (suc count) end at (b ∷ rest) t h =
    let p = pow_pos (32 - b.1) in
    let f = t.1.fits in
    let less : at < end = omega arith in
    let e : nat_lt at end ≡ true = grind arith in
    let n : b.1 ≡ least_length end at = is_least_length end at b.1 t.1 in
    let tail : rest ≡ blocks_from count end (at + size b.1) = tiling_is count end (at + size b.1) rest t.2 (omega arith) in
    rw (e, ← n, ← tail) (first b at rest t.0)
  where
    first : (z : ℕ × ℕ) (a : ℕ) (l : List (ℕ × ℕ)) → z.0 ≡ a → z ∷ l ≡ (a, z.1) ∷ l
    first z a l e = λ i. (e i, z.1) ∷ l

-- ---- the tiling is one

least_of-passes : (k end at : ℕ) → at < end → is_block_before end at (least_of k end at) ≡ true
least_of-passes zero end at h = passes end at 32 (omega arith) (omega arith)
least_of-passes (suc k) end at h = by_cases (is_block_before end at (32 - suc k)) (λ e. rw e e) (λ e. rw e (least_of-passes k end at h))

least_of-le : (k end at : ℕ) → least_of k end at ≤ 32
least_of-le zero end at = omega arith
least_of-le (suc k) end at = by_cases (is_block_before end at (32 - suc k)) (λ e. rw e (omega arith)) (λ e. rw e (least_of-le k end at))

least_of-least : (k end at m : ℕ) → k ≤ 32 → 32 - k ≤ m → is_block_before end at m ≡ true → least_of k end at ≤ m
least_of-least zero end at m h low e = omega arith
least_of-least (suc k) end at m h low p = by_cases (is_block_before end at (32 - suc k))
    (λ e. rw e low)
    (λ e.
    let other : m ≡ 32 - suc k → ⊥ = λ same. (let t : is_block_before end at (32 - suc k) ≡ true = rw same at p in cc) in
    let above : 32 - k ≤ m = omega arith in
    rw e (least_of-least k end at m (omega arith) above p))

pub blocks_tile : (count end at : ℕ) → at ≤ end → end - at ≤ count → IsTiling end at (blocks_from count end at)
unfolding blocks_from least_length
blocks_tile zero end at h c = omega arith
blocks_tile (suc count) end at h c = by_cases (nat_lt at end)
    (λ e.
    let less : at < end = grind arith in
    let p = passed end at (least_of 32 end at) (least_of-passes 32 end at less) in
    let size_pos = pow_pos (32 - least_of 32 end at) in
    let fits : at + size (least_of 32 end at) ≤ end = p.1 in
    let l : IsLeastLength end at (least_of 32 end at) = record {
      block = (least_of-le 32 end at, p.0);
      fits = fits;
      least = λ n b f. least_of-least 32 end at n (omega arith) (omega arith) (passes end at n b.1 f);
    } in
    rw e (refl, l, blocks_tile count end (at + size (least_of 32 end at)) fits (omega arith)))
    (λ e. let same : at ≡ end = grind arith in rw e same)

-- what is written block by block is the tiling, whatever tiles the rest
pub tiling_is_one : (first last : ℕ) (list : List (ℕ × ℕ)) → first ≤ last → IsTiling (last + 1) first list → list ≡ tiling first last
tiling_is_one first last list h t = tiling_is ((last + 1) - first) (last + 1) first list t (omega arith)

pub tiling_tiles : (first last : ℕ) → first ≤ last → IsTiling (last + 1) first (tiling first last)
tiling_tiles first last h = blocks_tile ((last + 1) - first) (last + 1) first (omega arith) (omega arith)
