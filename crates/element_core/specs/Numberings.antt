-- The numberings of the integer types: the number of a value is the value itself.
use Rattle.std.specs.Prelude.{◌≡◌, ℕ, ℤ, pos, negsuc, ◌-◌, ◌^◌, ◌<◌, ◌≤ℤ◌, FitsSigned, unsigned_abs, refl}
use Rattle.std.specs.Int.{Width}
use Rattle.std.specs.Ordering.{nat_cmp, int_cmp}
use Rattle.std.proofs.Common.{arith, ap}
use Rattle.std.proofs.lemmas.Int.{ints}
use Rattle.std.proofs.lemmas.Nat.{pow_pos}
use Rattle.element_core.specs.Numbering.{Numbering, IsNumbering}
use mir.Val.{hbits}

-- the integers of a width, by two's complement
abbrev pub signed : Width → Numbering ℤ
signed w = record {
  IsValue = λ x. FitsSigned w x;
  number = λ x. x;
  value_of = λ k. k;
  least = negsuc (2 ^ hbits w - 1);
  greatest = pos (2 ^ hbits w - 1);
}

-- the natural numbers below 2 ^ k
abbrev pub unsigned : ℕ → Numbering ℕ
unsigned k = record {
  IsValue = λ x. x < 2 ^ k;
  number = λ x. pos x;
  value_of = unsigned_abs;
  least = pos 0;
  greatest = pos (2 ^ k - 1);
}

signed-low : (w : Width) (x : ℤ) → FitsSigned w x → negsuc (2 ^ hbits w - 1) ≤ℤ x
signed-low w (pos n) f = omega (arith, ints)
signed-low w (negsuc n) f = let h = f.sfits in omega (arith, ints)

signed-high : (w : Width) (x : ℤ) → FitsSigned w x → x ≤ℤ pos (2 ^ hbits w - 1)
signed-high w (pos n) f = let h = f.sfits in omega (arith, ints)
signed-high w (negsuc n) f = omega (arith, ints)

signed-fits : (w : Width) (x : ℤ) → negsuc (2 ^ hbits w - 1) ≤ℤ x → x ≤ℤ pos (2 ^ hbits w - 1) → FitsSigned w x
signed-fits w (pos n) low high = let one = pow_pos (hbits w) in record { sfits = omega (arith, ints) }
signed-fits w (negsuc n) low high = let one = pow_pos (hbits w) in record { sfits = omega (arith, ints) }

pub signed-numbering : (w : Width) → IsNumbering int_cmp (signed w)
signed-numbering w = record {
  order = λ x y p q. refl;
  low = signed-low w;
  high = signed-high w;
  value = signed-fits w;
  number = λ k p q. refl;
  same = λ x y p q e. e;
}

unsigned-order : (x y : ℕ) → nat_cmp x y ≡ int_cmp (pos x) (pos y)
unsigned-order x y = grind (arith, ints)

unsigned-fits : (k : ℕ) (x : ℤ) → pos 0 ≤ℤ x → x ≤ℤ pos (2 ^ k - 1) → unsigned_abs x < 2 ^ k
unsigned-fits k (pos n) low high = let one = pow_pos k in omega (arith, ints)
unsigned-fits k (negsuc n) low high = absurd (omega (arith, ints))

unsigned-back : (x : ℤ) → pos 0 ≤ℤ x → pos (unsigned_abs x) ≡ x
unsigned-back (pos n) low = refl
unsigned-back (negsuc n) low = absurd (omega (arith, ints))

pub unsigned-numbering : (k : ℕ) → IsNumbering nat_cmp (unsigned k)
unsigned-numbering k = record {
  order = λ x y p q. unsigned-order x y;
  low = λ x p. omega (arith, ints);
  high = λ x p. omega (arith, ints);
  value = unsigned-fits k;
  number = λ x p q. unsigned-back x p;
  same = λ x y p q e. ap unsigned_abs e;
}
