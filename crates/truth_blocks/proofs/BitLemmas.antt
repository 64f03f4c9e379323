-- What the operations on words do to each of their bits.
use Rattle.std.proofs.Common.{◌≡◌, ℕ, zero, suc, ◌+◌, ◌-◌, ◌<◌, ◌≤◌, ◌^◌, refl, sym, ◌∙◌, arith, inl, inr, bit_and, bit_or, w64}
use Rattle.std.specs.Prelude.{true, false, not, ◌&&◌, ◌||◌, ◌==◌, nat_le, nat_lt, min, max, ◌*◌, ◌/◌, ◌⊎◌, ◌%◌, bit_xor}
use Rattle.std.specs.Int.{bit_at, bit_not}
use Rattle.std.proofs.lemmas.Nat.Bits.{bit_at_and, bit_at_or, bit_at_xor, bit_at_not, bit_at-zero, bit_at-lt, bit_at_ones, bit_at_mask_inside, bit_at_mask_below, bit_at_ones_above, ones_shl, ones_shr}
use Rattle.std.proofs.lemmas.Bool.{cases_lt}
use Rattle.number_line.specs.Ranges.{xor}
use Rattle.number_line.proofs.OrderLemmas.{nat_le_yes, nat_le_no, nat_lt_yes, nat_lt_no}
use Rattle.truth_blocks.specs.Blocks.{is_one}

and_of : (m n : ℕ) → m < 2 → n < 2 → (min m n == 1) ≡ ((m == 1) && (n == 1))
and_of zero zero p q = refl
and_of zero (suc zero) p q = refl
and_of zero (suc (suc n)) p q = absurd (omega arith)
and_of (suc zero) zero p q = refl
and_of (suc zero) (suc zero) p q = refl
and_of (suc zero) (suc (suc n)) p q = absurd (omega arith)
and_of (suc (suc m)) n p q = absurd (omega arith)

or_of : (m n : ℕ) → m < 2 → n < 2 → (max m n == 1) ≡ ((m == 1) || (n == 1))
or_of zero zero p q = refl
or_of zero (suc zero) p q = refl
or_of zero (suc (suc n)) p q = absurd (omega arith)
or_of (suc zero) zero p q = refl
or_of (suc zero) (suc zero) p q = refl
or_of (suc zero) (suc (suc n)) p q = absurd (omega arith)
or_of (suc (suc m)) n p q = absurd (omega arith)

xor_of : (m n : ℕ) → m < 2 → n < 2 → ((m + n) % 2 == 1) ≡ xor (m == 1) (n == 1)
xor_of zero zero p q = refl
xor_of zero (suc zero) p q = refl
xor_of zero (suc (suc n)) p q = absurd (omega arith)
xor_of (suc zero) zero p q = refl
xor_of (suc zero) (suc zero) p q = refl
xor_of (suc zero) (suc (suc n)) p q = absurd (omega arith)
xor_of (suc (suc m)) n p q = absurd (omega arith)

not_of : (m : ℕ) → m < 2 → (1 - m == 1) ≡ not (m == 1)
not_of zero p = refl
not_of (suc zero) p = refl
not_of (suc (suc m)) p = absurd (omega arith)

pub one_and : (a b i : ℕ) → is_one (bit_and a b) i ≡ (is_one a i && is_one b i)
unfolding is_one
one_and a b i = rw (bit_at_and a b i) (and_of (bit_at a i) (bit_at b i) (bit_at-lt a i) (bit_at-lt b i))

pub one_or : (a b i : ℕ) → is_one (bit_or a b) i ≡ (is_one a i || is_one b i)
unfolding is_one
one_or a b i = rw (bit_at_or a b i) (or_of (bit_at a i) (bit_at b i) (bit_at-lt a i) (bit_at-lt b i))

pub one_xor : (a b i : ℕ) → is_one (bit_xor a b) i ≡ xor (is_one a i) (is_one b i)
unfolding is_one
one_xor a b i = rw (bit_at_xor a b i) (xor_of (bit_at a i) (bit_at b i) (bit_at-lt a i) (bit_at-lt b i))

pub one_not : (a i : ℕ) → a < 2 ^ 64 → i < 64 → is_one (bit_not w64 a) i ≡ not (is_one a i)
unfolding is_one
one_not a i p q = rw (bit_at_not w64 a i p q) (not_of (bit_at a i) (bit_at-lt a i))

pub one_none : (i : ℕ) → is_one 0 i ≡ false
unfolding is_one
one_none i = rw (bit_at-zero i) refl

pub one_all : (i : ℕ) → i < 64 → is_one 18446744073709551615 i ≡ true
unfolding is_one
one_all i p = let e : bit_at (2 ^ 64 - 1) i ≡ 1 = bit_at_ones 64 i p in rw e refl

pub ruleset bits = (one_and, one_or, one_xor, one_not, one_none, one_all)

by_lt : {P : Type 0} (a b : ℕ) → (a < b → P) → (b ≤ a → P) → P
by_lt a b f g = elim (cases_lt a b) [ inl k ↦ f k | inr k ↦ g k ]

one_from : (low i : ℕ) → i < 64 → is_one (2 ^ 64 - 2 ^ low) i ≡ nat_le low i
unfolding is_one
one_from low i p = by_lt i low
    (λ k. rw (bit_at_mask_below low 64 i k) (sym (nat_le_no low i k)))
    (λ k. rw (bit_at_mask_inside low 64 i k p) (sym (nat_le_yes low i k)))

one_below : (high i : ℕ) → is_one (2 ^ high - 1) i ≡ nat_lt i high
unfolding is_one
one_below high i = by_lt i high
    (λ k. rw (bit_at_ones high i k) (sym (nat_lt_yes i high k)))
    (λ k. rw (bit_at_ones_above high i k) (sym (nat_lt_no i high k)))

-- ones from `low` up to `high`
pub one_between : (low high i : ℕ) → low ≤ 64 → high ≤ 64 → i < 64
    → is_one (bit_and (18446744073709551615 * 2 ^ low % 18446744073709551616) (18446744073709551615 / 2 ^ (64 - high))) i ≡ (nat_le low i && nat_lt i high)
one_between low high i p q r =
    let up : 18446744073709551615 * 2 ^ low % 18446744073709551616 ≡ 2 ^ 64 - 2 ^ low = ones_shl 64 low p in
    let back : 64 - (64 - high) ≡ high = omega arith in
    let down : 18446744073709551615 / 2 ^ (64 - high) ≡ 2 ^ (64 - (64 - high)) - 1 = ones_shr 64 (64 - high) (omega arith) in
    let down2 : 18446744073709551615 / 2 ^ (64 - high) ≡ 2 ^ high - 1 = rw back at down in
    rw (up, down2, one_and (2 ^ 64 - 2 ^ low) (2 ^ high - 1) i, one_from low i r, one_below high i) refl

-- the places of a block, counted from its base
pub literal_place : (from to base low high i : ℕ) → low ≡ from - base → high ≡ min (to - base) 64 → i < 64
    → (nat_le low i && nat_lt i high) ≡ (nat_le from (base + i) && nat_lt (base + i) to)
literal_place from to base low high i e f p = rw (start, end) refl
  where
    start : nat_le low i ≡ nat_le from (base + i)
    start = by_lt (base + i) from (λ k. nat_le_no low i (omega arith) ∙ sym (nat_le_no from (base + i) k)) (λ k. nat_le_yes low i (omega arith) ∙ sym (nat_le_yes from (base + i) k))

    end : nat_lt i high ≡ nat_lt (base + i) to
    end = by_lt (base + i) to (λ k. nat_lt_yes i high (omega arith) ∙ sym (nat_lt_yes (base + i) to k)) (λ k. nat_lt_no i high (omega arith) ∙ sym (nat_lt_no (base + i) to k))

pub literal_none : (from to base low high i : ℕ) → low ≡ from - base → high ≡ min (to - base) 64 → i < 64 → high ≤ low
    → false ≡ (nat_le from (base + i) && nat_lt (base + i) to)
literal_none from to base low high i e f p h = sym (empty (by_lt i low (λ k. inl k) (λ k. inr k))) ∙ literal_place from to base low high i e f p
  where
    empty : (i < low) ⊎ (low ≤ i) → (nat_le low i && nat_lt i high) ≡ false
    empty (inl k) = rw (nat_le_no low i k) refl
    empty (inr k) = rw (nat_le_yes low i k, nat_lt_no i high (omega arith)) refl
