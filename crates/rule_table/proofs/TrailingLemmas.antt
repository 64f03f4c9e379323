use Rattle.std.proofs.Common.{◌≡◌, ℕ, zero, suc, ◌+◌, ◌*◌, ◌^◌, ◌%◌, ◌/◌, ◌≤◌, refl, arith, sym, ◌∙◌}
use Rattle.std.proofs.lemmas.Nat.{mod-pow-add}
use Rattle.std.specs.Int.Count.{count_trailing_zeros}
use lib.Count.{under}

-- the digits above the lowest, and the lowest
lowest_apart : (j n : ℕ) → n % 2 ^ suc j ≡ (n / 2 % 2 ^ j) * 2 + n % 2
lowest_apart j n = let e : suc j ≡ j + 1 = omega arith in rw e (mod-pow-add n j 1)

-- the digits that are counted are zeros
pub zeros_counted : (k n : ℕ) → n % 2 ^ count_trailing_zeros k n ≡ 0
unfolding count_trailing_zeros
zeros_counted zero n = omega arith
zeros_counted (suc k) n = at (n % 2) refl (zeros_counted k (n / 2))
  where
    at : (d : ℕ) → n % 2 ≡ d → n / 2 % 2 ^ count_trailing_zeros k (n / 2) ≡ 0 → n % 2 ^ under d (count_trailing_zeros k (n / 2)) ≡ 0
    at zero e h = rw (lowest_apart (count_trailing_zeros k (n / 2)) n, h, e) (omega arith)
    at (suc d) e h = omega arith

-- and no further ones are zeros
pub counted_no_fewer : (k j n : ℕ) → j ≤ k → n % 2 ^ j ≡ 0 → j ≤ count_trailing_zeros k n
unfolding count_trailing_zeros
counted_no_fewer zero j n h e = omega arith
counted_no_fewer (suc k) zero n h e = omega arith
counted_no_fewer (suc k) (suc j) n h e =
    let parts : (n / 2 % 2 ^ j) * 2 + n % 2 ≡ 0 = sym (lowest_apart j n) ∙ e in
    let lowest : n % 2 ≡ 0 = omega arith in
    let rest : j ≤ count_trailing_zeros k (n / 2) = counted_no_fewer k j (n / 2) (omega arith) (omega arith) in
    rw lowest (omega arith)
