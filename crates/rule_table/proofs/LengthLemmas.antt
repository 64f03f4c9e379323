-- The length of the greatest block: by the trailing zeros of its start, and by the room.
use Rattle.std.proofs.Common.{◌≡◌, ℕ, suc, ◌+◌, ◌-◌, ◌*◌, ◌^◌, ◌%◌, ◌≤◌, ◌<◌, arith, ◌∙◌, ap}
use Rattle.std.specs.Prelude.{min}
use Rattle.std.proofs.lemmas.Nat.{pow-add}
use Rattle.std.proofs.Math.Pow.{pow_mono}
use Rattle.std.proofs.Math.Nat.{mul-mod_left}
use Rattle.std.specs.Int.Count.{count_trailing_zeros}
use Rattle.rule_table.specs.Blocks.{IsLeastLength}
use Rattle.rule_table.proofs.BlockLemmas.{by_lt, Multiple, multiple_from_mod, multiple_of_lower}
use Rattle.rule_table.proofs.TrailingLemmas.{zeros_counted, counted_no_fewer}

-- a power of two divides what a higher one divides
pub lower_divides : (j k a : ℕ) → j ≤ k → a % 2 ^ k ≡ 0 → a % 2 ^ j ≡ 0
lower_divides j k a h e =
    let m : Multiple (2 ^ j) a = multiple_of_lower j k a h (multiple_from_mod (2 ^ k) a e) in
    ap (λ (x : ℕ). x % 2 ^ j) m.is ∙ mul-mod_left m.times (2 ^ j)

-- a power of two that isn't above another one's next has no greater exponent
no_greater : (j g room : ℕ) → 2 ^ j ≤ room → room < 2 * 2 ^ g → j ≤ g
no_greater j g room h less =
    by_lt g j
    (λ k. let p : 2 ^ suc g ≤ 2 ^ j = pow_mono k in let e : 2 ^ (1 + g) ≡ 2 ^ 1 * 2 ^ g = pow-add 2 1 g in let f : suc g ≡ 1 + g = omega arith in let q : 2 ^ suc g ≡ 2 * 2 ^ g = rw f e in absurd (omega arith))
    (λ k. k)

-- how many low bits are free in the largest block that begins at `at` and lies before `end`
pub record IsGreatest (at end k : ℕ) : Type 0 where
  pub small : k ≤ 32
  pub block : at % 2 ^ k ≡ 0
  pub fits : at + 2 ^ k ≤ end
  pub greatest : (j : ℕ) → j ≤ 32 → at % 2 ^ j ≡ 0 → at + 2 ^ j ≤ end → j ≤ k

pub is_greatest : (at end g : ℕ) → at < end → end ≤ 2 ^ 32 → 2 ^ g ≤ end - at → end - at < 2 * 2 ^ g
    → IsGreatest at end (min (count_trailing_zeros 64 at) g)
is_greatest at end g less bound low high =
    let g_small : g ≤ 32 = no_greater_than_32 in
    let k_small : min (count_trailing_zeros 64 at) g ≤ g = omega arith in
    let p : 2 ^ min (count_trailing_zeros 64 at) g ≤ 2 ^ g = pow_mono k_small in
    record {
      small = omega arith;
      block = lower_divides (min (count_trailing_zeros 64 at) g) (count_trailing_zeros 64 at) at (omega arith) (zeros_counted 64 at);
      fits = omega arith;
      greatest = λ j h e f. let a : j ≤ count_trailing_zeros 64 at = counted_no_fewer 64 j at (omega arith) e in let b : j ≤ g = no_greater j g (end - at) (omega arith) high in omega arith;
    }
  where
    no_greater_than_32 : g ≤ 32
    no_greater_than_32 = no_greater g 32 (end - at) low (omega arith)

-- the same said of the length
pub is_least : (at end k : ℕ) → IsGreatest at end k → IsLeastLength end at (32 - k)
is_least at end k g =
    let e : k ≡ 32 - (32 - k) = let h = g.small in omega arith in
    record {
      block = (omega arith, rw (← e) g.block);
      fits = rw (← e) g.fits;
      least = λ m b f. let h : 32 - m ≤ k = g.greatest (32 - m) (omega arith) b.1 f in let b0 = b.0 in omega arith;
    }
