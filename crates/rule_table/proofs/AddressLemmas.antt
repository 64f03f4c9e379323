-- The block at an address ends at an address, and what is read of a piece.
use Rattle.std.proofs.Common.{◌≡◌, ℕ, ◌+◌, ◌-◌, ◌*◌, ◌^◌, ◌%◌, ◌≤◌, ◌<◌, List, length, take, drop, length-drop, refl, arith, w64}
use Rattle.std.specs.Prelude.{ℤ, pos, negsuc, FitsSigned, unsigned_abs, Bool, true, false, if◌then◌else◌, Some, None, option_map}
use Rattle.std.proofs.lemmas.Nat.{pow_pos}
use Rattle.std.proofs.lemmas.List.{take_all}
use Rattle.text_lines.specs.Decimals.{number_between, is_between}
use Rattle.text_lines.proofs.DecimalLemmas.{number_parts}
use Rattle.text_lines.proofs.ReaderLemmas.{ends_of_i64}
use Rattle.rule_table.specs.Blocks.{size}
use Rattle.rule_table.specs.Text.{decimal_up_to, place_of, has, address, span, block, addresses}
use Rattle.rule_table.proofs.BlockLemmas.{multiple_from_mod, multiple_of_lower, multiples_apart}
use Rattle.rule_table.proofs.WrittenLemmas.{shifted_size}

block_ends : (a n : ℕ) → n ≤ 32 → a < 2 ^ 32 → a % size n ≡ 0 → a + size n ≤ 2 ^ 32
block_ends a n h less e =
    multiples_apart (size n) a (2 ^ 32) (multiple_from_mod (size n) a e)
    (multiple_of_lower (32 - n) 32 (2 ^ 32) (omega arith) (record { times = 1; is = omega arith })) less

pub block_fits : (a n : ℕ) → n ≤ 32 → a < 2 ^ 32 → a % (1 * 2 ^ (32 - n) % 2 ^ 64) ≡ 0
    → a + (1 * 2 ^ (32 - n) % 2 ^ 64 - 1) < 2 ^ 32
block_fits a n h less e =
    let end : a + size n ≤ 2 ^ 32 = block_ends a n h less (rw (shifted_size n) at e) in
    let p = pow_pos (32 - n) in
    rw (shifted_size n) (omega arith)

-- ---- what is read of a piece

-- a number of 64 bits is the decimal where it lies from 0 to `most`
pub decimal_of : (most : ℕ) (piece : List ℕ) (z : ℤ) → number_between (negsuc 9223372036854775807) (pos 9223372036854775807) piece ≡ Some z
    → decimal_up_to most piece ≡ (if is_between (pos 0) (pos most) z then Some (unsigned_abs z) else None)
decimal_of most piece z e =
    let p = number_parts (negsuc 9223372036854775807) (pos 9223372036854775807) piece z e in
    rw (p.0, p.2) (by_test (is_between (pos 0) (pos most) z))
  where
    by_test : (b : Bool) → option_map unsigned_abs (if b then Some z else None) ≡ (if b then Some (unsigned_abs z) else None)
    by_test true = refl
    by_test false = refl

pub number_fits : (piece : List ℕ) (z : ℤ) → number_between (negsuc 9223372036854775807) (pos 9223372036854775807) piece ≡ Some z
    → FitsSigned w64 z
number_fits piece z e = ends_of_i64.fit z (number_parts (negsuc 9223372036854775807) (pos 9223372036854775807) piece z e).1

-- addresses with a dash
pub with_dash : (piece : List ℕ) (dash : ℕ) → dash ≡ place_of 45 piece → dash < length piece
    → addresses piece ≡ span (address (take dash piece)) (address (drop (dash + 1) piece))
with_dash piece dash e h =
    let less : place_of 45 piece < length piece = omega (arith, e) in
    let t : has 45 piece ≡ true = grind arith in
    rw (t, e) refl

-- addresses with a slash and no dash
pub with_slash : (piece : List ℕ) (dash slash : ℕ) → dash ≡ place_of 45 piece → length piece ≤ dash → slash ≡ place_of 47 piece
    → slash < length piece → addresses piece ≡ block (address (take slash piece)) (decimal_up_to 32 (drop (slash + 1) piece))
with_slash piece dash slash d no_dash e h =
    let more : length piece ≤ place_of 45 piece = omega (arith, d) in
    let less : place_of 47 piece < length piece = omega (arith, e) in
    let f : has 45 piece ≡ false = grind arith in
    let t : has 47 piece ≡ true = grind arith in
    rw (f, t, e) refl

-- the rest of a piece, taken as a slice
pub rest_taken : (k : ℕ) (piece : List ℕ) → take (length piece - k) (drop k piece) ≡ drop k piece
rest_taken k piece = take_all (length piece - k) (drop k piece) (omega (arith, length-drop k piece))
