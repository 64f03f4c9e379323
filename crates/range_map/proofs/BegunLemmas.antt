-- Which ranges have begun, and the last of them that holds a number.
use Rattle.std.proofs.Common.{◌≡◌, ℕ, zero, suc, ◌+◌, ◌<◌, ◌≤◌, List, [], ◌∷◌, ◌++◌, length, refl, ap, arith, sym, ◌∙◌}
use Rattle.std.specs.Prelude.{◌==◌, ℤ, ◌≤ℤ◌, ◌<ℤ◌, Bool, true, false, ◌||◌, map, Option, Some, None, IfSome, IfNone}
use Rattle.std.specs.BinaryHeap.{IsHeap, IsUpperBound, PopsGreatest}
use Rattle.std.specs.List.{All, slice_get, slice_index_or}
use Rattle.std.specs.List.Sorted.{IsPermutation}
use Rattle.std.specs.Ordering.{nat_cmp}
use Rattle.std.proofs.lemmas.Int.{ints}
use Rattle.std.proofs.lemmas.List.{map-append}
use Rattle.std.proofs.lemmas.List.Elements.{All-nil, All-push, All-head, All-tail}
use Rattle.std.proofs.lemmas.List.Folds.{list_any-append}
use Rattle.std.proofs.lemmas.List.Sorted.{IsPermutation-map, All-permutation, list_any-IsPermutation}
use Rattle.std.proofs.lemmas.Option.{slice_get_within}
use Rattle.element_core.specs.Numbering.{Numbering}
use Rattle.number_line.specs.Ranges.{lies_in}
use Rattle.range_map.specs.Range.{in_numbers}
use Rattle.range_map.specs.Valued.{pairs_in_numbers}
use Rattle.range_map.specs.Bounds.{ranges_of, has_place, AllBehind}
use Rattle.range_map.specs.Begun.{Begun, BeginsBy, IsStartOf, AreBegun, NoneHoldsFrom, IsLastTo, FirstReaches}
use Rattle.range_map.proofs.BoundLemmas.{same_place}

-- ---- the range at a place

module _ {T V : Type 0} (numbers : Numbering T) where
  -- the range of the pair at a place
  pub range_there : (pairs : List ((T × T) × V)) (place : ℕ) (pair : (T × T) × V) → slice_get pairs place ≡ Some pair
      → slice_get (ranges_of (pairs_in_numbers numbers pairs)) place ≡ Some (in_numbers numbers pair.0)
  range_there [] place pair h = absurd (cc)
  range_there (p ∷ rest) zero pair h = let one : p ≡ pair = cc in ap (λ (q : (T × T) × V). Some (in_numbers numbers q.0)) one
  range_there (p ∷ rest) (suc place) pair h = range_there rest place pair h

  -- and the pair that has the range at a place
  pub pair_there : (pairs : List ((T × T) × V)) (place : ℕ) (r : ℤ × ℤ) → slice_get (ranges_of (pairs_in_numbers numbers pairs)) place ≡ Some r
      → (pair : (T × T) × V) × (slice_get pairs place ≡ Some pair) × (in_numbers numbers pair.0 ≡ r)
  pair_there [] place r h = absurd (cc)
  pair_there (p ∷ rest) zero r h = (p, refl, cc)
  pair_there (p ∷ rest) (suc place) r h = pair_there rest place r h

  -- a place with a range lies within
  pub place_within : (pairs : List ((T × T) × V)) (place : ℕ) (r : ℤ × ℤ) → slice_get (ranges_of (pairs_in_numbers numbers pairs)) place ≡ Some r → place < length pairs
  place_within pairs place r h = let there = pair_there pairs place r h in slice_get_within pairs place there.0 there.1

-- ---- the starts of all ranges

has_itself : (place : ℕ) → (place == place) ≡ true
has_itself place = grind arith

-- the starts of the ranges below the place n
pub record AreStartsBelow (ranges : List (ℤ × ℤ)) (n : ℕ) (starts : List (ℤ × ℕ)) : Type 0 where
  pub starts_are : All (IsStartOf ranges) starts
  pub has_all : (place : ℕ) → place < n → has_place (map (λ start. start.1) starts) place ≡ true

module _ (ranges : List (ℤ × ℤ)) where
  pub no_starts : AreStartsBelow ranges 0 []
  no_starts = record { starts_are = All-nil (IsStartOf ranges); has_all = λ place h. absurd (omega arith) }

  pub start_pushed : (n : ℕ) (starts : List (ℤ × ℕ)) (start : ℤ) (r : ℤ × ℤ) → slice_get ranges n ≡ Some r → r.0 ≡ start → AreStartsBelow ranges n starts
      → AreStartsBelow ranges (n + 1) (starts ++ (start, n) ∷ [])
  start_pushed n starts start r there is below = record {
    starts_are = All-push (IsStartOf ranges) starts (start, n) below.starts_are (r, there, is);
    has_all = λ place h. rw (map-append (λ (s : ℤ × ℕ). s.1) starts ((start, n) ∷ []), list_any-append (λ other. other == place) (map (λ (s : ℤ × ℕ). s.1) starts) (n ∷ []))
        (by_case place h (n == place) refl);
  }
    where
      by_case : (place : ℕ) → place < n + 1 → (b : Bool) → (n == place) ≡ b → (has_place (map (λ start. start.1) starts) place || (b || false)) ≡ true
      by_case place h true e = last (has_place (map (λ start. start.1) starts) place)
        where
          last : (b : Bool) → (b || true) ≡ true
          last true = refl
          last false = refl
      by_case place h false e = rw (below.has_all place (grind arith)) refl

  -- all starts, in any order
  pub starts_permuted : (n : ℕ) (old new : List (ℤ × ℕ)) → IsPermutation old new → AreStartsBelow ranges n old → AreStartsBelow ranges n new
  starts_permuted n old new moved below = record {
    starts_are = All-permutation (IsStartOf ranges) old new moved below.starts_are;
    has_all = λ place h. sym (list_any-IsPermutation (λ other. other == place) (map (λ (s : ℤ × ℕ). s.1) old) (map (λ s. s.1) new) (IsPermutation-map (λ (s : ℤ × ℕ). s.1) old new moved))
        ∙ below.has_all place h;
  }

  pub all_to_begin : (starts : List (ℤ × ℕ)) → AreStartsBelow ranges (length ranges) starts → (n : ℤ) → AreBegun ranges n (record { places = []; rest = starts })
  all_to_begin starts below n = record {
    before = λ place h. absurd (cc);
    starts = below.starts_are;
    complete = λ place r x there low holds. below.has_all place (slice_get_within ranges place r there);
  }

-- ---- a range begins, or is found to have ended

module _ (ranges : List (ℤ × ℤ)) (n : ℤ) where
  pub one_begins : (old new : List ℕ) (start : ℤ × ℕ) (left rest : List (ℤ × ℕ)) → left ≡ start ∷ rest → start.0 ≤ℤ n → IsPermutation (start.1 ∷ old) new
      → AreBegun ranges n (record { places = old; rest = left }) → AreBegun ranges n (record { places = new; rest = rest })
  one_begins old new start left rest is low moved begun = record {
    before = λ place h. before place (start.1 == place) refl (has place ∙ h);
    starts = All-tail (IsStartOf ranges) start rest starts;
    complete = λ place r x there at holds. rw (sym (has place)) (moves (start.1 == place) (has_place old place) (has_place (map (λ s. s.1) rest) place) (rw is at (begun.complete place r x there at holds)));
  }
    where
      starts : All (IsStartOf ranges) (start ∷ rest)
      starts = rw is at begun.starts

      has : (place : ℕ) → has_place (start.1 ∷ old) place ≡ has_place new place
      has place = list_any-IsPermutation (λ other. other == place) (start.1 ∷ old) new moved

      before : (place : ℕ) (b : Bool) → (start.1 == place) ≡ b → (b || has_place old place) ≡ true → BeginsBy ranges n place
      before place true e h =
          let one : start.1 ≡ place = same_place start.1 place e in
          let first = All-head (IsStartOf ranges) start rest starts in
          (first.0, rw (← one) first.1, rw first.2 low)
      before place false e h = begun.before place h

      moves : (a b c : Bool) → (b || (a || c)) ≡ true → ((a || b) || c) ≡ true
      moves true b c h = refl
      moves false b c h = h

  pub one_leaves : (old new : List ℕ) (place : ℕ) (r : ℤ × ℤ) (rest : List (ℤ × ℕ)) → IsPermutation old (place ∷ new) → slice_get ranges place ≡ Some r → r.1 <ℤ n
      → AreBegun ranges n (record { places = old; rest = rest }) → AreBegun ranges n (record { places = new; rest = rest })
  one_leaves old new place r rest moved there ended begun = record {
    before = λ other h. begun.before other (has other ∙ rw h (last (place == other)));
    starts = begun.starts;
    complete = λ other s x found at holds. left other s x found at holds (place == other) refl (rw (has other) at (begun.complete other s x found at holds));
  }
    where
      has : (other : ℕ) → has_place old other ≡ has_place (place ∷ new) other
      has other = list_any-IsPermutation (λ k. k == other) old (place ∷ new) moved

      last : (b : Bool) → (b || true) ≡ true
      last true = refl
      last false = refl

      left : (other : ℕ) (s : ℤ × ℤ) (x : ℤ) → slice_get ranges other ≡ Some s → n ≤ℤ x → lies_in s x ≡ true → (b : Bool) → (place == other) ≡ b
          → ((b || has_place new other) || has_place (map (λ start. start.1) rest) other) ≡ true → (has_place new other || has_place (map (λ start. start.1) rest) other) ≡ true
      left other s x found at holds true e h =
          let one : place ≡ other = same_place place other e in
          let also : slice_get ranges place ≡ Some s = rw one found in
          let same : r ≡ s = cc in
          let end : s.1 <ℤ n = rw (← same) ended in
          absurd (grind (arith, ints))
      left other s x found at holds false e h = h

  pub begun_on : (m : ℤ) (begun : Begun) → n ≤ℤ m → AreBegun ranges n begun → AreBegun ranges m begun
  begun_on m begun h are = record {
    before = λ place has. let first = are.before place has in let low = first.2 in (first.0, first.1, omega (arith, ints));
    starts = are.starts;
    complete = λ place r x there at holds. are.complete place r x there (omega (arith, ints)) holds;
  }

-- the greatest place of a heap stands first
pub first_is : (places : List ℕ) (place : ℕ) → 0 < length places → place ≡ slice_index_or places 0 place → (others : List ℕ) × (places ≡ place ∷ others)
first_is [] place h e = absurd (omega arith)
first_is (k ∷ others) place h e = (others, ap (λ m. m ∷ others) (sym e))

pub has_first : (places others : List ℕ) (place : ℕ) → places ≡ place ∷ others → has_place places place ≡ true
has_first places others place is = rw (is, has_itself place) refl

-- and is what is taken off it
pub taken_off : (len : ℕ) (old new others : List ℕ) (place : ℕ) (taken : Option ℕ) → old ≡ place ∷ others → 0 < len → IfNone taken (len ≡ 0)
    → IfSome taken (λ x. x ≡ slice_index_or old 0 x) → IfSome taken (λ x. IsPermutation old (x ∷ new)) → IfSome taken (λ x. PopsGreatest nat_cmp old x new) → IsHeap nat_cmp old
    → IsPermutation old (place ∷ new) × IsHeap nat_cmp new
taken_off len old new others place None is some none first moved pops heap = absurd (omega arith)
taken_off len old new others place (Some x) is some none first moved pops heap =
    let one : x ≡ place = rw is at first in
    (rw one at moved, (pops heap).0)

-- ---- the last place

module _ (ranges : List (ℤ × ℤ)) where
  -- a range that is still to begin does so behind the end
  starts_behind : (end : ℤ) (rest : List (ℤ × ℕ)) (place : ℕ) (r : ℤ × ℤ) → All (IsStartOf ranges) rest → AllBehind end rest → has_place (map (λ start. start.1) rest) place ≡ true
      → slice_get ranges place ≡ Some r → end <ℤ r.0
  starts_behind end [] place r starts behind h there = absurd (cc)
  starts_behind end (start ∷ rest) place r starts behind h there =
      by_case (start.1 == place) refl h (λ later. starts_behind end rest place r (All-tail (IsStartOf ranges) start rest starts) (All-tail (λ (b : ℤ × ℕ). end <ℤ b.0) start rest behind) later there)
    where
      by_case : (b : Bool) → (start.1 == place) ≡ b → (b || has_place (map (λ s. s.1) rest) place) ≡ true → (has_place (map (λ s. s.1) rest) place ≡ true → end <ℤ r.0) → end <ℤ r.0
      by_case true e h go =
          let one : start.1 ≡ place = same_place start.1 place e in
          let first = All-head (IsStartOf ranges) start rest starts in
          let also : slice_get ranges place ≡ Some first.0 = rw (← one) first.1 in
          let same : first.0 ≡ r = cc in
          let at : r.0 ≡ start.0 = rw (← same) first.2 in
          rw at (All-head (λ (b : ℤ × ℕ). end <ℤ b.0) start rest behind)
      by_case false e h go = go h

  -- the range at the first place reaches x
  pub first_reaches : (x : ℤ) (places others : List ℕ) (place : ℕ) (r : ℤ × ℤ) → places ≡ place ∷ others → FirstReaches ranges x places → slice_get ranges place ≡ Some r → x ≤ℤ r.1
  first_reaches x places others place r is reaches there =
      let first = rw is at reaches in
      let also = first.1 in
      let same : first.0 ≡ r = cc in
      rw same at first.2

  -- each place is at most the greatest
  at_most : (greatest : ℕ) (places : List ℕ) (place : ℕ) → IsUpperBound nat_cmp greatest places → has_place places place ≡ true → place ≤ greatest
  at_most greatest [] place upper h = absurd (cc)
  at_most greatest (k ∷ places) place upper h = by_case (k == place) refl h (at_most greatest places place upper.1)
    where
      by_case : (b : Bool) → (k == place) ≡ b → (b || has_place places place) ≡ true → (has_place places place ≡ true → place ≤ greatest) → place ≤ greatest
      by_case true e h go = let one : k ≡ place = same_place k place e in let first = upper.0 in grind arith
      by_case false e h go = go h

  module _ (x end : ℤ) (places : List ℕ) (rest : List (ℤ × ℕ)) (begun : AreBegun ranges x (record { places = places; rest = rest })) (behind : AllBehind end rest) where
    -- up to the end, no place holds a number that hasn't begun
    not_begun : (place : ℕ) (r : ℤ × ℤ) (y : ℤ) → x ≤ℤ y → y ≤ℤ end → slice_get ranges place ≡ Some r → has_place places place ≡ false → lies_in r y ≡ false
    not_begun place r y low high there absent = by_case (lies_in r y) refl
      where
        by_case : (b : Bool) → lies_in r y ≡ b → b ≡ false
        by_case true e =
            let known : has_place (map (λ start. start.1) rest) place ≡ true = rw absent at (begun.complete place r y there low e) in
            let later = starts_behind end rest place r begun.starts behind known there in
            absurd (grind (arith, ints))
        by_case false e = refl

    pub none_is_last : places ≡ [] → x ≤ℤ end → IsLastTo ranges x None end
    none_is_last none order = (order, λ y low high place r h there. not_begun place r y low high there (ap (λ ps. has_place ps place) none))

    pub greatest_is_last : (greatest : ℕ) (others : List ℕ) (to : ℤ) → places ≡ greatest ∷ others → IsUpperBound nat_cmp greatest places
        → (r : ℤ × ℤ) → slice_get ranges greatest ≡ Some r → x ≤ℤ to → to ≤ℤ end → to ≤ℤ r.1 → IsLastTo ranges x (Some greatest) to
    greatest_is_last greatest others to is upper r there order within ends = (order, λ y low high. (r, there, holds y low high, later y low high))
      where
        has : has_place places greatest ≡ true
        has = rw (is, has_itself greatest) refl

        holds : (y : ℤ) → x ≤ℤ y → y ≤ℤ to → lies_in r y ≡ true
        holds y low high =
            let first = begun.before greatest has in
            let also = first.1 in
            let same : first.0 ≡ r = cc in
            let start : r.0 ≤ℤ x = rw same at first.2 in
            grind (arith, ints)

        later : (y : ℤ) → x ≤ℤ y → y ≤ℤ to → NoneHoldsFrom ranges (suc greatest) y
        later y low high place s h found = not_begun place s y low (omega (arith, ints)) found (absent (has_place places place) refl)
          where
            absent : (b : Bool) → has_place places place ≡ b → b ≡ false
            absent true e = absurd (let most = at_most greatest places place upper e in omega arith)
            absent false e = refl
