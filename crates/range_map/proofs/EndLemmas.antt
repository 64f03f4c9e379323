-- Of canonical ranges those that end at a number or behind it: the others come first, and have no part in what begins there or behind it.
use Rattle.std.proofs.Common.{◌≡◌, ℕ, zero, suc, ◌<◌, ◌≤◌, Bool, true, false, List, [], ◌∷◌, length, take, drop, ◌-◌, length-drop, refl, ap, sym, ◌∙◌, arith}
use Rattle.std.specs.Prelude.{ℤ, pos, ◌+ℤ◌, ◌≤ℤ◌, ◌<ℤ◌, int_lt, slice_index_or}
use Rattle.std.specs.List.Sorted.{IsPartitionedBy, IsPartitionPoint}
use Rattle.std.proofs.lemmas.Int.{ints, by_lt_z}
use Rattle.element_core.specs.Numbering.{Numbering}
use Rattle.number_line.specs.Ranges.{IsCanonical}
use Rattle.number_line.specs.Parts.{parts}
use Rattle.number_line.proofs.OrderLemmas.{le_yes, le_no}
use Rattle.number_line.proofs.PartLemmas.{part_before}
use Rattle.number_line.proofs.RangeLemmas.{from_lower}
use Rattle.range_map.specs.Merging.{EndFrom, ending_from}
use Rattle.range_map.specs.Range.{in_numbers}
use Rattle.range_map.specs.Set.{all_in_numbers}

module _ (n : ℤ) where
  pub ending_canonical : (lo hi : ℤ) (ranges : List (ℤ × ℤ)) → IsCanonical lo hi ranges → IsCanonical lo hi (ending_from n ranges)
  ending_canonical lo hi [] c = tt
  ending_canonical lo hi (r ∷ rest) c = by_lt_z r.1 n (passed (ending_canonical (r.1 +ℤ pos 2) hi rest c.3)) (kept (ending_canonical (r.1 +ℤ pos 2) hi rest c.3))
    where
      passed : IsCanonical (r.1 +ℤ pos 2) hi (ending_from n rest) → r.1 <ℤ n → IsCanonical lo hi (ending_from n (r ∷ rest))
      passed later h = rw (le_no n r.1 h) (from_lower (r.1 +ℤ pos 2) lo hi (ending_from n rest) (omega (arith, ints, c.0, c.1)) later)

      kept : IsCanonical (r.1 +ℤ pos 2) hi (ending_from n rest) → n ≤ℤ r.1 → IsCanonical lo hi (ending_from n (r ∷ rest))
      kept later h = rw (le_yes n r.1 h) (c.0, c.1, c.2, later)

  pub ending_end : (ranges : List (ℤ × ℤ)) → EndFrom n (ending_from n ranges)
  ending_end [] = tt
  ending_end (r ∷ rest) = by_lt_z r.1 n (λ h. rw (le_no n r.1 h) (ending_end rest)) (λ h. rw (le_yes n r.1 h) (h, ending_end rest))

  -- the others have no part in a range that begins at n or behind it
  pub ending_parts : (r : ℤ × ℤ) (ranges : List (ℤ × ℤ)) → n ≤ℤ r.0 → parts r (ending_from n ranges) ≡ parts r ranges
  ending_parts r [] h = refl
  ending_parts r (s ∷ rest) h = by_lt_z s.1 n (passed (ending_parts r rest h)) (kept (ending_parts r rest h))
    where
      passed : parts r (ending_from n rest) ≡ parts r rest → s.1 <ℤ n → parts r (ending_from n (s ∷ rest)) ≡ parts r (s ∷ rest)
      passed later e = rw (le_no n s.1 e) (later ∙ sym (part_before r s rest (omega (arith, ints, e, h))))

      kept : parts r (ending_from n rest) ≡ parts r rest → n ≤ℤ s.1 → parts r (ending_from n (s ∷ rest)) ≡ parts r (s ∷ rest)
      kept later e = rw (le_yes n s.1 e, later) refl

  pub ending_all : (lo hi : ℤ) (ranges : List (ℤ × ℤ)) → n ≤ℤ lo → IsCanonical lo hi ranges → ending_from n ranges ≡ ranges
  ending_all lo hi [] h c = refl
  ending_all lo hi (r ∷ rest) h c =
      rw (le_yes n r.1 (omega (arith, ints, h, c.0, c.1))) (ap (λ l. r ∷ l) (ending_all (r.1 +ℤ pos 2) hi rest (omega (arith, ints, h, c.0, c.1)) c.3))

  -- where the first ends there or behind, so do all
  pub ending_first : (lo hi : ℤ) (r : ℤ × ℤ) (rest : List (ℤ × ℤ)) → IsCanonical lo hi (r ∷ rest) → n ≤ℤ r.1 → ending_from n (r ∷ rest) ≡ r ∷ rest
  ending_first lo hi r rest c h = rw (le_yes n r.1 h) (ap (λ l. r ∷ l) (ending_all (r.1 +ℤ pos 2) hi rest (omega (arith, ints, h)) c.3))

  pub ending_past : (r : ℤ × ℤ) (rest : List (ℤ × ℤ)) → r.1 <ℤ n → ending_from n (r ∷ rest) ≡ ending_from n rest
  ending_past r rest h = rw (le_no n r.1 h) refl

  -- of those that end at m or behind it
  pub ending_later : (m : ℤ) (ranges : List (ℤ × ℤ)) → m ≤ℤ n → ending_from n (ending_from m ranges) ≡ ending_from n ranges
  ending_later m [] h = refl
  ending_later m (r ∷ rest) h = by_lt_z r.1 m (passed (ending_later m rest h)) (kept (ending_later m rest h))
    where
      passed : ending_from n (ending_from m rest) ≡ ending_from n rest → r.1 <ℤ m → ending_from n (ending_from m (r ∷ rest)) ≡ ending_from n (r ∷ rest)
      passed later e = rw (le_no m r.1 e, le_no n r.1 (omega (arith, ints, e, h))) later

      kept : ending_from n (ending_from m rest) ≡ ending_from n rest → m ≤ℤ r.1 → ending_from n (ending_from m (r ∷ rest)) ≡ ending_from n (r ∷ rest)
      kept later e = rw (le_yes m r.1 e, later) refl

-- ---- by a search

module _ {T : Type 0} (numbers : Numbering T) (n : ℤ) where
  -- the range ends before n
  abbrev pub ends_before : T × T → Bool
  ends_before r = int_lt (numbers.number r.1) n

  -- of ascending ranges those that end before n come first
  later_ends : (lo hi : ℤ) (ranges : List (T × T)) (j : ℕ) (d : T × T) → IsCanonical lo hi (all_in_numbers numbers ranges) → j < length ranges
      → lo ≤ℤ numbers.number (slice_index_or ranges j d).1
  later_ends lo hi [] j d c lt = absurd (omega arith)
  later_ends lo hi (r ∷ rest) zero d c lt = omega (arith, ints, c.0, c.1)
  later_ends lo hi (r ∷ rest) (suc j) d c lt =
      let later = later_ends (numbers.number r.1 +ℤ pos 2) hi rest j d c.3 (omega arith) in
      omega (arith, ints, c.0, c.1, later)

  is_before : (a : ℤ) → int_lt a n ≡ true → a <ℤ n
  is_before a e = grind (arith, ints)

  not_before : (a : ℤ) → int_lt a n ≡ false → n ≤ℤ a
  not_before a e = grind (arith, ints)

  before_later : (a b m : ℤ) → a ≤ℤ b → int_lt b m ≡ true → int_lt a m ≡ true
  before_later a b m h e = grind (arith, ints)

  pub parted : (lo hi : ℤ) (ranges : List (T × T)) → IsCanonical lo hi (all_in_numbers numbers ranges) → IsPartitionedBy ends_before ranges
  parted lo hi [] c i j d h lt e = absurd (omega arith)
  parted lo hi (r ∷ rest) c zero zero d h lt e = e
  parted lo hi (r ∷ rest) c zero (suc j) d h lt e =
      let later = later_ends (numbers.number r.1 +ℤ pos 2) hi rest j d c.3 (omega arith) in
      before_later (numbers.number r.1) (numbers.number (slice_index_or rest j d).1) n (omega (arith, ints, later)) e
  parted lo hi (r ∷ rest) c (suc i) zero d h lt e = absurd (omega arith)
  parted lo hi (r ∷ rest) c (suc i) (suc j) d h lt e = parted (numbers.number r.1 +ℤ pos 2) hi rest c.3 i j d (omega arith) (omega arith) e

  -- those from the place of the first that doesn't end before n
  pub ending_drop : (ranges : List (T × T)) (k : ℕ) → IsPartitionPoint (λ r. ends_before r ≡ true) (λ r. ends_before r ≡ false) ranges k
      → all_in_numbers numbers (drop k ranges) ≡ ending_from n (all_in_numbers numbers ranges)
  ending_drop ranges k p = at ranges k p.0 p.1
    where
      at : (ranges : List (T × T)) (k : ℕ) → ((j : ℕ) (d : T × T) → 0 ≤ j → j < k → ends_before (slice_index_or ranges j d) ≡ true)
          → ((j : ℕ) (d : T × T) → k ≤ j → j < length ranges → ends_before (slice_index_or ranges j d) ≡ false)
          → all_in_numbers numbers (drop k ranges) ≡ ending_from n (all_in_numbers numbers ranges)
      at [] zero f g = refl
      at [] (suc k) f g = refl
      at (r ∷ rest) zero f g =
          rw (le_yes n (numbers.number r.1) (not_before (numbers.number r.1) (g 0 r (omega arith) (omega arith))))
          (ap (λ l. in_numbers numbers r ∷ l) (at rest zero (λ j d low lt. absurd (omega arith)) (λ j d low lt. g (suc j) d (omega arith) (omega arith))))
      at (r ∷ rest) (suc k) f g =
          rw (le_no n (numbers.number r.1) (is_before (numbers.number r.1) (f 0 r (omega arith) (omega arith))))
          (at rest k (λ j d low lt. f (suc j) d (omega arith) (omega arith)) (λ j d low lt. g (suc j) d (omega arith) (omega arith)))

take_all : {A : Type 0} (n : ℕ) (xs : List A) → length xs ≡ n → take n xs ≡ xs
take_all zero [] h = refl
take_all (suc n) [] h = absurd (omega arith)
take_all zero (x ∷ xs) h = absurd (omega arith)
take_all (suc n) (x ∷ xs) h = ap (λ l. x ∷ l) (take_all n xs (omega arith))

-- a slice from a place on
pub slice_from : {A : Type 0} (k : ℕ) (xs : List A) → take (length xs - k) (drop k xs) ≡ drop k xs
slice_from k xs = take_all (length xs - k) (drop k xs) (length-drop k xs)
