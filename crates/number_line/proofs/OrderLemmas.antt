-- What tests of order answer, of whole numbers and of counts.
use Rattle.std.proofs.Common.{◌≡◌, ℕ, ◌<◌, ◌≤◌, arith}
use Rattle.std.specs.Prelude.{ℤ, ◌≤ℤ◌, ◌<ℤ◌, int_le, int_lt, nat_le, nat_lt, true, false}
use Rattle.std.proofs.lemmas.Bool.Decides.{nat_tests}
use Rattle.std.proofs.lemmas.Int.{ints}

pub le_yes : (x y : ℤ) → x ≤ℤ y → int_le x y ≡ true
le_yes x y h = grind (arith, ints)

pub le_no : (x y : ℤ) → y <ℤ x → int_le x y ≡ false
le_no x y h = grind (arith, ints)

pub lt_yes : (x y : ℤ) → x <ℤ y → int_lt x y ≡ true
lt_yes x y h = grind (arith, ints)

pub lt_no : (x y : ℤ) → y ≤ℤ x → int_lt x y ≡ false
lt_no x y h = grind (arith, ints)

pub nat_le_yes : (a b : ℕ) → a ≤ b → nat_le a b ≡ true
nat_le_yes a b h = grind (arith, nat_tests)

pub nat_le_no : (a b : ℕ) → b < a → nat_le a b ≡ false
nat_le_no a b h = grind (arith, nat_tests)

pub nat_lt_yes : (a b : ℕ) → a < b → nat_lt a b ≡ true
nat_lt_yes a b h = grind (arith, nat_tests)

pub nat_lt_no : (a b : ℕ) → b ≤ a → nat_lt a b ≡ false
nat_lt_no a b h = grind (arith, nat_tests)
