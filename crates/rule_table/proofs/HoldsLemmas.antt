-- A block holds the numbers that agree with its first one in all but the lowest bits.
use Rattle.std.proofs.Common.{◌≡◌, ℕ, ◌+◌, ◌-◌, ◌*◌, ◌^◌, ◌%◌, ◌/◌, ◌≤◌, ◌<◌, arith, sym, ◌∙◌, ap}
use Rattle.std.proofs.lemmas.Nat.{pow_pos, shr_split, shr_high, mod_below}
use Rattle.rule_table.specs.Blocks.{size, IsBlock}
use Rattle.rule_table.specs.Laws.{BlockHoldsAgreeing}
use Rattle.rule_table.proofs.BlockLemmas.{Multiple, multiple_from_mod}

pub agree : (a n x : ℕ) → IsBlock (a, n) → a ≤ x → x < a + size n → x / size n ≡ a / size n
agree a n x b low high =
    let m : Multiple (size n) a = multiple_from_mod (size n) a b.1 in
    let p = pow_pos (32 - n) in
    let ax : x ≡ m.times * 2 ^ (32 - n) + (x - a) = omega (arith, m.is) in
    let aa : a ≡ m.times * 2 ^ (32 - n) + 0 = omega (arith, m.is) in
    ap (λ (y : ℕ). y / 2 ^ (32 - n)) ax ∙ (shr_high m.times (32 - n) (x - a) (omega arith)
    ∙ sym (ap (λ (y : ℕ). y / 2 ^ (32 - n)) aa ∙ shr_high m.times (32 - n) 0 p))

pub hold : (a n x : ℕ) → IsBlock (a, n) → x / size n ≡ a / size n → (a ≤ x) × (x < a + size n)
hold a n x b e =
    let p = pow_pos (32 - n) in
    let sx = shr_split x (32 - n) in
    let sa = shr_split a (32 - n) in
    let zeros : a % 2 ^ (32 - n) ≡ 0 = b.1 in
    let same : x / 2 ^ (32 - n) * 2 ^ (32 - n) ≡ a / 2 ^ (32 - n) * 2 ^ (32 - n) = ap (λ (y : ℕ). y * 2 ^ (32 - n)) e in
    let small : x % 2 ^ (32 - n) < 2 ^ (32 - n) = mod_below x (2 ^ (32 - n)) p in
    (omega arith, omega arith)

pub block_holds_agreeing : BlockHoldsAgreeing
block_holds_agreeing a n x b = (λ h. agree a n x b h.0 h.1, λ e. hold a n x b e)
