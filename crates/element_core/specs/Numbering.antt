-- Types whose values are numbered: each value has a whole number, and each number from the least to the greatest a value.
use Rattle.std.specs.Prelude.{◌≡◌, ℤ, ◌≤ℤ◌}
use Rattle.std.specs.declared.cmp.Ordering.{Ordering}
use Rattle.std.specs.Ordering.{int_cmp}

-- the type's own test of a value, the number of a value and the value of a number, and the two ends
pub record Numbering (T : Type 0) : Type 1 where
  pub IsValue : T → Type 0
  pub number : T → ℤ
  pub value_of : ℤ → T
  pub least : ℤ
  pub greatest : ℤ

-- the order cmp is that of the numbers, which go from the least to the greatest without a gap, one for each value
pub record IsNumbering {T : Type 0} (cmp : T → T → Ordering) (n : Numbering T) : Type 0 where
  pub order : (x y : T) → n.IsValue x → n.IsValue y → cmp x y ≡ int_cmp (n.number x) (n.number y)
  pub low : (x : T) → n.IsValue x → n.least ≤ℤ n.number x
  pub high : (x : T) → n.IsValue x → n.number x ≤ℤ n.greatest
  pub value : (k : ℤ) → n.least ≤ℤ k → k ≤ℤ n.greatest → n.IsValue (n.value_of k)
  pub number : (k : ℤ) → n.least ≤ℤ k → k ≤ℤ n.greatest → n.number (n.value_of k) ≡ k
  pub same : (x y : T) → n.IsValue x → n.IsValue y → n.number x ≡ n.number y → x ≡ y
