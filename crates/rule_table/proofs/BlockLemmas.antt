-- Fewest blocks: what else tiles a stretch has no fewer than its tiling by greatest blocks.
use Rattle.std.proofs.Common.{◌≡◌, ℕ, suc, ◌+◌, ◌-◌, ◌*◌, ◌^◌, ◌%◌, ◌/◌, ◌≤◌, ◌<◌, List, [], ◌∷◌, length, arith, sym, ◌∙◌, ap, inl, inr}
use Rattle.std.proofs.lemmas.Nat.{pow_pos, pow-add, div-add-mod'}
use Rattle.std.proofs.lemmas.Bool.{cases_lt}
use Rattle.std.proofs.Math.Nat.{mul-le-mul_left, mul_assoc}
use Rattle.std.proofs.Math.Pow.{pow_mono}
use Rattle.rule_table.specs.Blocks.{size, Tiles, IsTiling}

pub by_lt : {A : Type 0} (a b : ℕ) → (a < b → A) → (b ≤ a → A) → A
by_lt a b f g = elim (cases_lt a b) [ inl h ↦ f h | inr h ↦ g h ]

-- a is a multiple of d
pub record Multiple (d a : ℕ) : Type 0 where
  pub times : ℕ
  pub is : a ≡ times * d

pub multiple_from_mod : (d a : ℕ) → a % d ≡ 0 → Multiple d a
multiple_from_mod d a e = record { times = a / d; is = let h = div-add-mod' a d in omega arith }

-- multiples of one number that differ lie that number apart
pub multiples_apart : (d a b : ℕ) → Multiple d a → Multiple d b → a < b → a + d ≤ b
multiples_apart d a b p q less =
    by_lt p.times q.times
    (λ h. let k : d * suc p.times ≤ d * q.times = mul-le-mul_left d h in omega (arith, p.is, q.is))
    (λ h. let k : d * q.times ≤ d * p.times = mul-le-mul_left d h in absurd (omega (arith, p.is, q.is)))

-- a multiple of a power of two is one of each lower power
pub multiple_of_lower : (j k a : ℕ) → j ≤ k → Multiple (2 ^ k) a → Multiple (2 ^ j) a
multiple_of_lower j k a h m =
    let e : (k - j) + j ≡ k = omega arith in
    let p : 2 ^ k ≡ 2 ^ (k - j) * 2 ^ j = ap (λ (n : ℕ). 2 ^ n) (sym e) ∙ pow-add 2 (k - j) j in
    record { times = m.times * 2 ^ (k - j); is = m.is ∙ ap (λ (d : ℕ). m.times * d) p ∙ sym (mul_assoc m.times (2 ^ (k - j)) (2 ^ j)) }

multiple_further : (d a : ℕ) → Multiple d a → Multiple d (a + d)
multiple_further d a m = record { times = suc m.times; is = omega (arith, m.is) }

-- a block that begins before the end m of a block, and not before its start, ends at m or before
ends_within : (j k b m : ℕ) → b % 2 ^ j ≡ 0 → Multiple (2 ^ k) m → b < m → m < b + 2 ^ k → b + 2 ^ j ≤ m
ends_within j k b m e mul less near =
    let at : Multiple (2 ^ j) b = multiple_from_mod (2 ^ j) b e in
    by_lt k j
    (λ h. let far : b + 2 ^ k ≤ m = multiples_apart (2 ^ k) b m (multiple_of_lower k j b (omega arith) at) mul less in absurd (omega arith))
    (λ h. multiples_apart (2 ^ j) b m at (multiple_of_lower j k m h mul) less)

tiles_end : (end at : ℕ) (list : List (ℕ × ℕ)) → Tiles end at list → at ≤ end
tiles_end end at [] t = omega arith
tiles_end end at (b ∷ rest) t = let h : at + size b.1 ≤ end = tiles_end end (at + size b.1) rest t.2 in omega arith

-- the blocks of another tiling, from b on, are no fewer than those of the tiling by greatest blocks from m on, where m is
-- the end of a block of that and b lies in it
fewest_from : (end b m k : ℕ) (tiling blocks : List (ℕ × ℕ)) → IsTiling end m tiling → Tiles end b blocks
    → b ≤ m → m < b + 2 ^ k → Multiple (2 ^ k) m → length tiling ≤ length blocks
fewest_from end b m k [] blocks g t low near mul = omega arith
fewest_from end b m k (x ∷ xs) [] g t low near mul = let p = pow_pos (32 - x.1) in let f = g.1.fits in absurd (omega arith)
fewest_from end b m k (x ∷ xs) (y ∷ ys) g t low near mul =
    by_lt b m
    (λ h.
    let within : b + size y.1 ≤ m = ends_within (32 - y.1) k b m (begins y b t.0 t.1.1) mul h near in
    let p = pow_pos (32 - y.1) in
    let rest : length (x ∷ xs) ≤ length ys = fewest_from end (b + size y.1) m k (x ∷ xs) ys g t.2 within (omega arith) mul in
    omega arith)
    (λ h.
    let e : b ≡ m = omega arith in
    let least : x.1 ≤ y.1 = g.1.least y.1 (t.1.0, begins y m (t.0 ∙ e) t.1.1) (rw (← e) (tiles_end end (b + size y.1) ys t.2)) in
    let no_more : size y.1 ≤ size x.1 = (let h : 32 - y.1 ≤ 32 - x.1 = omega arith in pow_mono h) in
    let p = pow_pos (32 - y.1) in
    let rest : length xs ≤ length ys =
    fewest_from end (b + size y.1) (m + size x.1) (32 - x.1) xs ys g.2 t.2 (omega arith) (omega arith)
    (multiple_further (size x.1) m (multiple_from_mod (size x.1) m g.1.block.1))
    in omega arith)
  where
    begins : (z : ℕ × ℕ) (a : ℕ) → z.0 ≡ a → z.0 % size z.1 ≡ 0 → a % size z.1 ≡ 0
    begins z a e h = rw (← e) h

pub fewest : (end at : ℕ) (tiling blocks : List (ℕ × ℕ)) → IsTiling end at tiling → Tiles end at blocks → length tiling ≤ length blocks
fewest end at tiling blocks g t = fewest_from end at at 0 tiling blocks g t (omega arith) (omega arith) (record { times = at; is = omega arith })
