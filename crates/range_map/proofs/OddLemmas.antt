-- The places that stand in a list an odd number of times.
use Rattle.std.proofs.Common.{◌≡◌, ℕ, suc, ◌+◌, ◌<◌, ◌≤◌, List, [], ◌∷◌, ◌++◌, refl, ap, arith, sym, ◌∙◌}
use Rattle.std.specs.Prelude.{◌==◌, ℤ, ◌≤ℤ◌, Bool, true, false, ◌||◌, cond}
use Rattle.std.specs.List.{sum_by}
use Rattle.std.specs.List.Sorted.{IsPermutation, IsSorted}
use Rattle.std.specs.Ordering.{nat_cmp}
use Rattle.std.proofs.lemmas.List.Sums.{sum_by-cons}
use Rattle.std.proofs.lemmas.List.Sorted.{sum_by-IsPermutation}
use Rattle.number_line.specs.Ranges.{xor}
use Rattle.range_map.specs.Bounds.{has_place, is_odd, AscendFrom, AscendBelow, AreActive}
use Rattle.range_map.proofs.BoundLemmas.{xor_false, odd, one_more, same_place, absent_below, AreTold, bound_passed}

swap : (a b c : Bool) → xor a (xor b c) ≡ xor b (xor a c)
swap true true c = refl
swap true false c = refl
swap false b c = refl

pub is_odd_push : (places : List ℕ) (place other : ℕ) → is_odd (places ++ place ∷ []) other ≡ xor (place == other) (is_odd places other)
is_odd_push [] place other = refl
is_odd_push (first ∷ rest) place other = rw (is_odd_push rest place other) (swap (first == other) (place == other) (is_odd rest other))

-- ascending places stand there once
pub is_odd_once : (n : ℕ) (places : List ℕ) → AscendFrom n places → (place : ℕ) → is_odd places place ≡ has_place places place
is_odd_once n [] a place = refl
is_odd_once n (k ∷ rest) a place = by_case (k == place) refl (is_odd_once (suc k) rest a.1 place)
  where
    by_case : (b : Bool) → (k == place) ≡ b → is_odd rest place ≡ has_place rest place → xor b (is_odd rest place) ≡ (b || has_place rest place)
    by_case true e same =
        let one : k ≡ place = same_place k place e in
        let none : has_place rest place ≡ false = rw (← one) (absent_below k (suc k) rest a.1 (omega arith)) in
        rw (same, none) refl
    by_case false e same = same

-- ---- whatever their order

module _ (place : ℕ) where
  abbrev stands : ℕ → ℕ
  stands other = cond (other == place) 1 0

  is_odd_sum : (places : List ℕ) → is_odd places place ≡ odd (sum_by stands places)
  is_odd_sum [] = refl
  is_odd_sum (other ∷ rest) = rw (sum_by-cons stands other rest, is_odd_sum rest) (one_more (other == place) (sum_by stands rest))

  pub is_odd_permuted : (old new : List ℕ) → IsPermutation old new → is_odd new place ≡ is_odd old place
  is_odd_permuted old new moved = is_odd_sum new ∙ (ap odd (sum_by-IsPermutation stands old new moved) ∙ sym (is_odd_sum old))

-- ---- the last of ascending places

pub below_last : (n m : ℕ) (front : List ℕ) (last : ℕ) → AscendBelow n m (front ++ last ∷ []) → AscendBelow n last front × (n ≤ last) × (last < m)
below_last n m [] last a = (tt, a.0, a.1)
below_last n m (k ∷ rest) last a = let more = below_last (suc k) m rest last a.2 in ((a.0, omega (arith, more.1), more.0), omega (arith, a.0, more.1), more.2)

pub below_raise : (n m more : ℕ) (places : List ℕ) → m ≤ more → AscendBelow n m places → AscendBelow n more places
below_raise n m more [] h a = tt
below_raise n m more (k ∷ rest) h a = (a.0, omega (arith, a.1), below_raise (suc k) m more rest h a.2)

pub below_push : (n : ℕ) (front : List ℕ) (place : ℕ) → AscendBelow n place front → n ≤ place → AscendBelow n (place + 1) (front ++ place ∷ [])
below_push n [] place a low = (low, omega arith, tt)
below_push n (k ∷ rest) place a low = (a.0, omega (arith, a.1), below_push (suc k) rest place a.2 (omega (arith, a.1)))

pub ascend_below : (n m : ℕ) (places : List ℕ) → AscendBelow n m places → AscendFrom n places
ascend_below n m [] a = tt
ascend_below n m (k ∷ rest) a = (a.0, ascend_below (suc k) m rest a.2)

-- a greater place is there once it is put behind the others
pub put_behind : (n : ℕ) (front : List ℕ) (place : ℕ) → AscendBelow n place front → (other : ℕ) → has_place (front ++ place ∷ []) other ≡ xor (place == other) (has_place front other)
put_behind n [] place a other = alone (place == other)
  where
    alone : (b : Bool) → (b || false) ≡ xor b false
    alone true = refl
    alone false = refl
put_behind n (k ∷ rest) place a other = by_case (k == other) refl (put_behind (suc k) rest place a.2 other)
  where
    by_case : (b : Bool) → (k == other) ≡ b → has_place (rest ++ place ∷ []) other ≡ xor (place == other) (has_place rest other)
        → (b || has_place (rest ++ place ∷ []) other) ≡ xor (place == other) (b || has_place rest other)
    by_case true e behind =
        let one : k ≡ other = same_place k other e in
        let apart : (place == other) ≡ false = grind (arith, a.1) in
        rw apart refl
    by_case false e behind = behind

xor_twice : (b c : Bool) → c ≡ xor b (xor b c)
xor_twice true true = refl
xor_twice true false = refl
xor_twice false c = refl

-- and is gone once it is taken off
pub taken_off : (n : ℕ) (front : List ℕ) (place : ℕ) → AscendBelow n place front → (other : ℕ) → has_place front other ≡ xor (place == other) (has_place (front ++ place ∷ []) other)
taken_off n front place a other = rw (put_behind n front place a other) (xor_twice (place == other) (has_place front other))

-- ---- one place after the other

-- the places don't fall, from n on
abbrev pub NotFallFrom : ℕ → List ℕ → Type 0
NotFallFrom n [] = Unit {0}
NotFallFrom n (place ∷ rest) = (n ≤ place) × NotFallFrom place rest

sorted_from : (n k : ℕ) (rest : List ℕ) → n ≤ k → IsSorted nat_cmp (k ∷ rest) → NotFallFrom n (k ∷ rest)
sorted_from n k [] low sorted = (low, tt)
sorted_from n k (next ∷ rest) low sorted =
    let first = sorted 0 k (omega arith) (omega arith) in
    let step : k ≤ next = grind (arith, first) in
    (low, sorted_from k next rest step (λ i d lt within. let one_on : suc i + 1 ≡ suc (i + 1) = omega arith in rw one_on at (sorted (suc i) d (omega arith) (omega arith))))

pub sorted_not_fall : (places : List ℕ) → IsSorted nat_cmp places → NotFallFrom 0 places
sorted_not_fall [] sorted = tt
sorted_not_fall (k ∷ rest) sorted = sorted_from 0 k rest (omega arith) sorted

-- the places kept ascend and aren't above those left, and which of them stand there an odd number of times is the same as of all
abbrev pub AreKept : List ℕ → List ℕ → List ℕ → Type 0
AreKept all kept left = (top : ℕ) × AscendBelow 0 (top + 1) kept × NotFallFrom top left × ((place : ℕ) → xor (has_place kept place) (is_odd left place) ≡ is_odd all place)

pub kept_start : (all kept : List ℕ) → kept ≡ [] → IsSorted nat_cmp all → AreKept all kept all
kept_start all kept none sorted = rw none (0, tt, sorted_not_fall all sorted, λ place. refl)

module _ (all kept left rest : List ℕ) (place : ℕ) (is : left ≡ place ∷ rest) (k : AreKept all kept left) where
  at_place : NotFallFrom k.0 (place ∷ rest)
  at_place = rw is at k.2

  pub kept_below : AscendBelow 0 (place + 1) kept
  kept_below = let low = at_place.0 in below_raise 0 (k.0 + 1) (place + 1) kept (omega (arith, low)) k.1

  pub kept_step : (new : List ℕ) → AscendBelow 0 (place + 1) new → ((other : ℕ) → has_place new other ≡ xor (place == other) (has_place kept other)) → AreKept all new rest
  kept_step new ascending toggled = (
    place,
    ascending,
    at_place.1,
    λ other. rw (toggled other) (regroup (place == other) (has_place kept other) (is_odd rest other) ∙ (rw is at (k.3 other))),
  )
    where
      regroup : (b h r : Bool) → xor (xor b h) r ≡ xor h (xor b r)
      regroup true true true = refl
      regroup true true false = refl
      regroup true false r = refl
      regroup false h r = refl

pub kept_end : (all kept left : List ℕ) → left ≡ [] → AreKept all kept left → AscendFrom 0 kept × ((place : ℕ) → has_place kept place ≡ is_odd all place)
kept_end all kept left none k = (ascend_below 0 (k.0 + 1) kept k.1, λ place. sym (xor_false (has_place kept place)) ∙ (rw none at (k.3 place)))

-- ---- going on to a number

module _ (greatest : ℤ) (ranges : List (ℤ × ℤ)) (n : ℤ) where
  pub told_start : (places all : List ℕ) (rest : List (ℤ × ℕ)) → all ≡ places → AscendFrom 0 places → AreActive greatest ranges n (record { places = places; rest = rest }) → AreTold greatest ranges n (is_odd all) rest
  told_start places all rest same ascending active place x low high = rw (same, is_odd_once 0 places ascending place) (active place x low high)

  -- a bound that is passed
  pub told_step : (all new : List ℕ) (bound : ℤ × ℕ) (left rest : List (ℤ × ℕ)) → left ≡ bound ∷ rest → bound.0 ≤ℤ n → new ≡ all ++ bound.1 ∷ []
      → AreTold greatest ranges n (is_odd all) left → AreTold greatest ranges n (is_odd new) rest
  told_step all new bound left rest is passed pushed =
      bound_passed greatest ranges n (is_odd all) (is_odd new) bound left rest is passed (λ other. ap (λ l. is_odd l other) pushed ∙ is_odd_push all bound.1 other)

  -- those that stand there an odd number of times are the active ones
  pub told_end : (all sorted kept : List ℕ) (rest : List (ℤ × ℕ)) → IsPermutation all sorted → ((place : ℕ) → has_place kept place ≡ is_odd sorted place)
      → AreTold greatest ranges n (is_odd all) rest → AreActive greatest ranges n (record { places = kept; rest = rest })
  told_end all sorted kept rest moved odd told place x low high = rw (odd place, is_odd_permuted place all sorted moved) (told place x low high)
