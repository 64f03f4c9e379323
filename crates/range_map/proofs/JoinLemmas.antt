-- Ranges that begin in order, joined one after another.
use Rattle.std.proofs.Common.{◌≡◌, ℕ, suc, ◌+◌, List, [], ◌∷◌, refl, ap, arith, sym, ◌∙◌}
use Rattle.std.specs.Prelude.{ℤ, pos, ◌+ℤ◌, ◌≤ℤ◌, Bool, true, false, ◌||◌, nat_lt, cond, IfOk, Result, Ok, Err}
use Rattle.std.specs.List.{sum_by}
use Rattle.std.specs.List.Sorted.{IsSortedBy, IsPermutation}
use Rattle.std.specs.Ordering.{int_cmp, is_lt}
use Rattle.std.proofs.lemmas.Int.{ints}
use Rattle.std.proofs.lemmas.List.Sums.{sum_by-cons}
use Rattle.std.proofs.lemmas.List.Sorted.{sum_by-IsPermutation}
use Rattle.std.proofs.Math.Bool.{or_assoc, or-false}
use Rattle.number_line.specs.Ranges.{lies_in, holds, IsCanonical}
use Rattle.number_line.specs.Valued.{IsCanonicalMap}
use Rattle.element_core.specs.Numbering.{Numbering}
use Rattle.range_map.specs.Bounds.{ranges_of}
use Rattle.range_map.specs.Range.{in_numbers}
use Rattle.range_map.specs.Set.{all_in_numbers}
use Rattle.range_map.specs.Merging.{BeginBy, IsJoined, BeginInOrder, BeginInOrderFrom}
use Rattle.range_map.proofs.CanonicalLemmas.{begin_by-raise}

-- what holds of an answer, told as something else
pub told_as : {A E : Type 0} (P Q : A → Type 0) (r : Result A E) → IfOk r P → ((a : A) → P a → Q a) → IfOk r Q
told_as P Q (Ok a) p f = f a p
told_as P Q (Err e) p f = tt

-- `out` holds what the list `all` held before `left`, which is left of it
pub record IsJoinedSoFar (lo hi : ℤ) (all out left : List (ℤ × ℤ)) : Type 0 where
  pub canonical : IsCanonical lo hi out
  pub members : (x : ℤ) → (holds out x || holds left x) ≡ holds all x
  pub reached : ℤ
  pub begin_by : BeginBy reached out
  pub in_order : BeginInOrderFrom reached left

module _ (lo hi : ℤ) (all : List (ℤ × ℤ)) where
  pub joined_start : BeginInOrder all → IsJoinedSoFar lo hi all [] all
  joined_start h = record { canonical = tt; members = λ x. refl; reached = (from all h).0; begin_by = tt; in_order = (from all h).1 }
    where
      from : (list : List (ℤ × ℤ)) → BeginInOrder list → (n : ℤ) × BeginInOrderFrom n list
      from [] k = (pos 0, tt)
      from (r ∷ rest) k = (r.0, (omega (arith, ints), k))

  pub joined_next : (out left : List (ℤ × ℤ)) (r : ℤ × ℤ) (rest : List (ℤ × ℤ)) → left ≡ r ∷ rest → IsJoinedSoFar lo hi all out left → BeginBy r.0 out
  joined_next out left r rest e j = let f = rw e at j.in_order in begin_by-raise j.reached r.0 out f.0 j.begin_by

  pub joined_step : (out left : List (ℤ × ℤ)) (r : ℤ × ℤ) (rest new : List (ℤ × ℤ)) → left ≡ r ∷ rest → IsJoinedSoFar lo hi all out left
      → IsJoined lo hi out r new → IsJoinedSoFar lo hi all new rest
  joined_step out left r rest new e j k =
      let f = rw e at j.in_order in
      let m = rw e at j.members in
      record {
        canonical = k.canonical;
        members = λ x. ap (λ b. b || holds rest x) (k.members x) ∙ (or_assoc (holds out x) (lies_in r x) (holds rest x) ∙ m x);
        reached = r.0;
        begin_by = k.begin_by;
        in_order = f.1;
      }

  pub joined_all : (out left : List (ℤ × ℤ)) → left ≡ [] → IsJoinedSoFar lo hi all out left → (x : ℤ) → holds out x ≡ holds all x
  joined_all out left e j x = let m = rw e at j.members in sym (or-false (holds out x)) ∙ m x

module _ {T : Type 0} (numbers : Numbering T) where
  not_below : (a b : ℤ) → is_lt (int_cmp b a) ≡ false → a ≤ℤ b
  not_below a b h = grind (arith, ints)

  in_order_from : (r : T × T) (rest : List (T × T)) → IsSortedBy (λ a b. is_lt (int_cmp (numbers.number a.0) (numbers.number b.0))) (r ∷ rest)
      → BeginInOrderFrom (numbers.number r.0) (all_in_numbers numbers rest)
  in_order_from r [] h = tt
  in_order_from r (s ∷ rest) h = (
    not_below (numbers.number r.0) (numbers.number s.0) (h 0 r (omega arith) (omega arith)),
    in_order_from s rest (λ k d low lt. let next : suc k + 1 ≡ suc (k + 1) = omega arith in rw next at (h (suc k) d (omega arith) (omega arith))),
  )

  -- sorted by their starts
  pub sorted_in_order : (ranges : List (T × T)) → IsSortedBy (λ a b. is_lt (int_cmp (numbers.number a.0) (numbers.number b.0))) ranges → BeginInOrder (all_in_numbers numbers ranges)
  sorted_in_order [] h = tt
  sorted_in_order (r ∷ rest) h = in_order_from r rest h

  -- a number is held where the count of the ranges around it isn't zero
  abbrev around : ℤ → T × T → ℕ
  around x r = cond (lies_in (in_numbers numbers r) x) 1 0

  some : (n : ℕ) → true ≡ nat_lt 0 (1 + n)
  some n = grind arith

  holds_by_count : (x : ℤ) (ranges : List (T × T)) → holds (all_in_numbers numbers ranges) x ≡ nat_lt 0 (sum_by (around x) ranges)
  holds_by_count x [] = refl
  holds_by_count x (r ∷ rest) = rw (sum_by-cons (around x) r rest) (at (lies_in (in_numbers numbers r) x) (holds_by_count x rest))
    where
      at : (b : Bool) → holds (all_in_numbers numbers rest) x ≡ nat_lt 0 (sum_by (around x) rest)
          → (b || holds (all_in_numbers numbers rest) x) ≡ nat_lt 0 (cond b 1 0 + sum_by (around x) rest)
      at true ih = some (sum_by (around x) rest)
      at false ih = let none : 0 + sum_by (around x) rest ≡ sum_by (around x) rest = omega arith in rw none ih

  -- and so their order doesn't matter
  pub holds_permuted : (old new : List (T × T)) → IsPermutation old new → (x : ℤ) → holds (all_in_numbers numbers new) x ≡ holds (all_in_numbers numbers old) x
  holds_permuted old new p x = holds_by_count x new ∙ (ap (nat_lt 0) (sum_by-IsPermutation (around x) old new p) ∙ sym (holds_by_count x old))

-- the ranges of a canonical list of ranges with values begin in order
module _ {V : Type 0} (same : V → V → Bool) (hi : ℤ) where
  order_from : (n m : ℤ) (list : List ((ℤ × ℤ) × V)) → m ≤ℤ n → IsCanonicalMap same n hi list → BeginInOrderFrom m (ranges_of list)
  order_from n m [] h c = tt
  order_from n m (p ∷ rest) h c = (omega (arith, ints, h, c.0), order_from (p.0.1 +ℤ pos 1) p.0.0 rest (omega (arith, ints, c.1)) c.4)

  pub map_in_order : (lo : ℤ) (list : List ((ℤ × ℤ) × V)) → IsCanonicalMap same lo hi list → BeginInOrder (ranges_of list)
  map_in_order lo [] c = tt
  map_in_order lo (p ∷ rest) c = order_from (p.0.1 +ℤ pos 1) p.0.0 rest (omega (arith, ints, c.1)) c.4
