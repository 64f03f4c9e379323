-- The bounds of several ranges, and the places of those that hold a number.
use Rattle.std.proofs.Common.{◌≡◌, ℕ, zero, suc, ◌+◌, ◌<◌, List, [], ◌∷◌, ◌++◌, refl, ap, arith, sym, ◌∙◌}
use Rattle.std.specs.Prelude.{◌==◌, ℤ, pos, ◌+ℤ◌, ◌≤ℤ◌, ◌<ℤ◌, Bool, true, false, not, ◌&&◌, ◌||◌, if◌then◌else◌, int_le, cond, map}
use Rattle.std.specs.List.{sum_by, All, AllByRecursion}
use Rattle.std.specs.List.Sorted.{IsPermutation, IsSortedBy}
use Rattle.std.specs.Ordering.{int_cmp, is_lt}
use Rattle.std.proofs.lemmas.Int.{ints}
use Rattle.std.proofs.lemmas.List.{map-append}
use Rattle.std.proofs.lemmas.List.Sums.{sum_by-cons}
use Rattle.std.proofs.lemmas.List.Elements.{All-nil, All-cons, All-head, All-tail, All-weaker}
use Rattle.std.proofs.lemmas.List.Sorted.{sum_by-IsPermutation, IsPermutation-map, All-permutation}
use Rattle.std.specs.declared.cmp.Ordering.{Ordering}
use Rattle.element_core.specs.Numbering.{Numbering, IsNumbering}
use Rattle.number_line.specs.Ranges.{lies_in, xor}
use Rattle.range_map.specs.declared.sweep.bounds.Bound.{Bound}
use Rattle.range_map.specs.Range.{in_numbers}
use Rattle.range_map.specs.Sweep.{DoNotFallFrom}
use Rattle.range_map.specs.Bounds.{lies_at_from, lies_at, places_from, places_at, bound_in_numbers, bounds_in_numbers, is_passed, crossed, AreBounds, AreBoundsPushed, has_place, AscendFrom, Active, AreActive, AllBehind}

pub xor_false : (b : Bool) → xor b false ≡ b
xor_false true = refl
xor_false false = refl

pub same_place : (place other : ℕ) → (place == other) ≡ true → place ≡ other
same_place place other h = grind arith

-- ---- ascending places

pub absent_below : (n m : ℕ) (keys : List ℕ) → AscendFrom m keys → n < m → has_place keys n ≡ false
absent_below n m [] a h = refl
absent_below n m (k ∷ keys) a h =
    let other : (k == n) ≡ false = grind arith in
    rw other (absent_below n (suc k) keys a.1 (omega arith))

lies_at_earlier : (n m : ℕ) (ranges : List (ℤ × ℤ)) (x : ℤ) → n < m → lies_at_from m ranges n x ≡ false
lies_at_earlier n m [] x h = refl
lies_at_earlier n m (r ∷ rest) x h =
    let other : (m == n) ≡ false = grind arith in
    rw other (lies_at_earlier n (suc m) rest x (omega arith))

-- the first place is n where n is one of them
begins_with : (n : ℕ) (keys : List ℕ) → AscendFrom n keys → has_place keys n ≡ true → (rest : List ℕ) × (keys ≡ n ∷ rest) × AscendFrom (suc n) rest
begins_with n [] a h = absurd (cc)
begins_with n (k ∷ keys) a h = by_case (k == n) refl h
  where
    by_case : (b : Bool) → (k == n) ≡ b → (b || has_place keys n) ≡ true → (rest : List ℕ) × (k ∷ keys ≡ n ∷ rest) × AscendFrom (suc n) rest
    by_case true e h = let one : k ≡ n = same_place k n e in (keys, ap (λ m. m ∷ keys) one, rw (← one) a.1)
    by_case false e h = let none : has_place keys n ≡ false = absent_below n (suc k) keys a.1 (omega arith) in absurd (cc)

-- and all are further on where it isn't
further_on : (n : ℕ) (keys : List ℕ) → AscendFrom n keys → has_place keys n ≡ false → AscendFrom (suc n) keys
further_on n [] a h = tt
further_on n (k ∷ keys) a h = by_case (k == n) refl h
  where
    by_case : (b : Bool) → (k == n) ≡ b → (b || has_place keys n) ≡ false → AscendFrom (suc n) (k ∷ keys)
    by_case true e h = absurd (cc)
    by_case false e h = (grind arith, a.1)

-- ascending places are given by which they are
pub only_places : (n : ℕ) (ranges : List (ℤ × ℤ)) (x : ℤ) (keys : List ℕ) → AscendFrom n keys
    → ((place : ℕ) → has_place keys place ≡ lies_at_from n ranges place x) → keys ≡ places_from n ranges x
only_places n [] x [] a h = refl
only_places n [] x (k ∷ keys) a h =
    let itself : (k == k) ≡ true = grind arith in
    let none : has_place (k ∷ keys) k ≡ false = h k in
    let there : has_place (k ∷ keys) k ≡ true = rw itself in
    absurd (cc)
only_places n (r ∷ rest) x keys a h = by_case (lies_in r x) refl (λ left ascend is. only_places (suc n) rest x left ascend is)
  where
    itself : (n == n) ≡ true
    itself = grind arith

    here : has_place keys n ≡ lies_in r x
    here = rw itself at (h n)

    by_case : (b : Bool) → lies_in r x ≡ b
        → ((left : List ℕ) → AscendFrom (suc n) left → ((place : ℕ) → has_place left place ≡ lies_at_from (suc n) rest place x) → left ≡ places_from (suc n) rest x)
        → keys ≡ (if b then n ∷ places_from (suc n) rest x else places_from (suc n) rest x)
    by_case true e go =
        let first = begins_with n keys a (here ∙ e) in
        first.1 ∙ ap (λ left. n ∷ left) (go first.0 first.2 (λ place. others first.0 first.1 first.2 place (n == place) refl))
      where
        others : (left : List ℕ) → keys ≡ n ∷ left → AscendFrom (suc n) left → (place : ℕ) (b : Bool) → (n == place) ≡ b → has_place left place ≡ lies_at_from (suc n) rest place x
        others left is ascend place true k =
            let one : n ≡ place = same_place n place k in
            rw (← one) (absent_below n (suc n) left ascend (omega arith) ∙ sym (lies_at_earlier n (suc n) rest x (omega arith)))
        others left is ascend place false k = rw (is, k) at (h place)
    by_case false e go = go keys (further_on n keys a (here ∙ e)) (λ place. others place (n == place) refl)
      where
        others : (place : ℕ) (b : Bool) → (n == place) ≡ b → has_place keys place ≡ lies_at_from (suc n) rest place x
        others place true k =
            let one : n ≡ place = same_place n place k in
            rw (← one) ((here ∙ e) ∙ sym (lies_at_earlier n (suc n) rest x (omega arith)))
        others place false k = rw k at (h place)

-- ---- bounds that are passed

crossed-push : (bounds : List (ℤ × ℕ)) (bound : ℤ × ℕ) (place : ℕ) (x : ℤ) → crossed (bounds ++ bound ∷ []) place x ≡ xor (crossed bounds place x) (is_passed place x bound)
crossed-push [] bound place x = alone (is_passed place x bound)
  where
    alone : (b : Bool) → xor b false ≡ xor false b
    alone true = refl
    alone false = refl
crossed-push (first ∷ rest) bound place x = rw (crossed-push rest bound place x) (regroup (is_passed place x first) (crossed rest place x) (is_passed place x bound))
  where
    regroup : (a b c : Bool) → xor a (xor b c) ≡ xor (xor a b) c
    regroup true true c = not_twice c
      where
        not_twice : (b : Bool) → not (not b) ≡ b
        not_twice true = refl
        not_twice false = refl
    regroup true false c = refl
    regroup false b c = refl

module _ (greatest : ℤ) where
  -- the two bounds of a range
  pub two_pushed : (old : List (ℤ × ℕ)) (r : ℤ × ℤ) (place : ℕ) → r.0 ≤ℤ r.1 → AreBoundsPushed greatest old r place ((old ++ (r.0, place) ∷ []) ++ (r.1 +ℤ pos 1, place) ∷ [])
  two_pushed old r place ordered other x high =
      crossed-push (old ++ (r.0, place) ∷ []) (r.1 +ℤ pos 1, place) other x
      ∙ (ap (λ b. xor b (is_passed other x (r.1 +ℤ pos 1, place))) (crossed-push old (r.0, place) other x)
      ∙ both (crossed old other x) (place == other) (int_le r.0 x) (int_le x r.1) (int_le (r.1 +ℤ pos 1) x) (grind (arith, ints)) (grind (arith, ints)))
    where
      both : (a b start end behind : Bool) → behind ≡ not end → (start ≡ false → end ≡ true) → xor (xor a (b && start)) (b && behind) ≡ xor a (b && (start && end))
      both true false start end behind e f = refl
      both false false start end behind e f = refl
      both a true false end behind e f = let last : end ≡ true = f refl in rw (e, last) (unchanged a)
        where
          unchanged : (c : Bool) → xor (xor c false) false ≡ xor c false
          unchanged true = refl
          unchanged false = refl
      both true true true true behind e f = rw e refl
      both true true true false behind e f = rw e refl
      both false true true true behind e f = rw e refl
      both false true true false behind e f = rw e refl

  -- the one bound of a range up to the greatest number
  pub one_pushed : (old : List (ℤ × ℕ)) (r : ℤ × ℤ) (place : ℕ) → r.1 ≡ greatest → AreBoundsPushed greatest old r place (old ++ (r.0, place) ∷ [])
  one_pushed old r place last other x high =
      crossed-push old (r.0, place) other x ∙ at (int_le r.0 x) (int_le x r.1) (grind (arith, ints))
    where
      at : (start end : Bool) → end ≡ true → xor (crossed old other x) ((place == other) && start) ≡ xor (crossed old other x) ((place == other) && (start && end))
      at true end e = rw e
      at false end e = refl

-- ---- the same for bounds of a numbered type

module _ {T : Type 0} (numbers : Numbering T) where
  pub bounds-push : (list : List (Bound T)) (bound : Bound T) → bounds_in_numbers numbers (list ++ bound ∷ []) ≡ bounds_in_numbers numbers list ++ bound_in_numbers numbers bound ∷ []
  bounds-push list bound = map-append (bound_in_numbers numbers) list (bound ∷ [])

  abbrev pub AreValues : List (Bound T) → Type 0
  AreValues list = All (λ bound. numbers.IsValue bound.at) list

  pub push_two : (old mid new : List (Bound T)) (a b : Bound T) (r : T × T) (place : ℕ) → mid ≡ old ++ a ∷ [] → new ≡ mid ++ b ∷ []
      → bound_in_numbers numbers a ≡ (numbers.number r.0, place) → bound_in_numbers numbers b ≡ (numbers.number r.1 +ℤ pos 1, place)
      → numbers.number r.0 ≤ℤ numbers.number r.1
      → AreBoundsPushed numbers.greatest (bounds_in_numbers numbers old) (in_numbers numbers r) place (bounds_in_numbers numbers new)
  push_two old mid new a b r place is_mid is_new is_a is_b ordered =
      rw (is_new, is_mid, bounds-push (old ++ a ∷ []) b, bounds-push old a, is_a, is_b)
      (two_pushed numbers.greatest (bounds_in_numbers numbers old) (in_numbers numbers r) place ordered)

  pub push_one : (old new : List (Bound T)) (a : Bound T) (r : T × T) (place : ℕ) → new ≡ old ++ a ∷ []
      → bound_in_numbers numbers a ≡ (numbers.number r.0, place) → numbers.number r.1 ≡ numbers.greatest
      → AreBoundsPushed numbers.greatest (bounds_in_numbers numbers old) (in_numbers numbers r) place (bounds_in_numbers numbers new)
  push_one old new a r place is_new is_a last =
      rw (is_new, bounds-push old a, is_a) (one_pushed numbers.greatest (bounds_in_numbers numbers old) (in_numbers numbers r) place last)

  pub values_permuted : (old new : List (Bound T)) → IsPermutation old new → AreValues old → AreValues new
  values_permuted old new moved values = All-permutation (λ bound. numbers.IsValue bound.at) old new moved values

  not_less : (a b : ℤ) → is_lt (int_cmp b a) ≡ false → a ≤ℤ b
  not_less a b h = grind (arith, ints)

  abbrev pub ByNumber : Bound T → Bound T → Bool
  ByNumber a b = is_lt (int_cmp (numbers.number a.at) (numbers.number b.at))

  module _ (cmp : T → T → Ordering) (numbered : IsNumbering cmp numbers) where
    from_first : (n : ℤ) (bound : Bound T) (rest : List (Bound T)) → n ≤ℤ numbers.number bound.at → AreValues (bound ∷ rest)
        → IsSortedBy ByNumber (bound ∷ rest) → DoNotFallFrom numbers n (map (λ b. b.at) (bound ∷ rest))
    from_first n bound [] low values sorted = let value = values 0 bound (omega arith) in (value, low, numbered.high bound.at value, tt)
    from_first n bound (next ∷ rest) low values sorted =
        let value = values 0 bound (omega arith) in (
          value,
          low,
          numbered.high bound.at value,
          from_first (numbers.number bound.at) next rest
              (not_less (numbers.number bound.at) (numbers.number next.at) (sorted 0 bound (omega arith) (omega arith)))
              (All-tail (λ b. numbers.IsValue b.at) bound (next ∷ rest) values)
              (λ k d low lt. let one_on : suc k + 1 ≡ suc (k + 1) = omega arith in rw one_on at (sorted (suc k) d (omega arith) (omega arith))),
        )

    -- sorted by their numbers
    pub sorted_do_not_fall : (list : List (Bound T)) → AreValues list → IsSortedBy ByNumber list → DoNotFallFrom numbers numbers.least (map (λ b. b.at) list)
    sorted_do_not_fall [] values sorted = tt
    sorted_do_not_fall (bound ∷ rest) values sorted =
        from_first numbers.least bound rest (numbered.low bound.at (values 0 bound (omega arith))) values sorted

-- ---- all bounds, whatever their order

-- what is told by the bounds so far and by the ranges to come, one range further
pub bounds_step : (greatest : ℤ) (n m : ℕ) (r : ℤ × ℤ) (left rest all : List (ℤ × ℤ)) (old new : List (ℤ × ℕ)) → m ≡ suc n → left ≡ r ∷ rest → AreBoundsPushed greatest old r n new
    → ((place : ℕ) (x : ℤ) → x ≤ℤ greatest → xor (crossed old place x) (lies_at_from n left place x) ≡ lies_at all place x)
    → (place : ℕ) (x : ℤ) → x ≤ℤ greatest → xor (crossed new place x) (lies_at_from m rest place x) ≡ lies_at all place x
bounds_step greatest n m r left rest all old new next is pushed told place x high =
    rw (next, pushed place x high) (by_case (n == place) refl ∙ (rw is at (told place x high)))
  where
    by_case : (b : Bool) → (n == place) ≡ b
        → xor (xor (crossed old place x) (b && lies_in r x)) (lies_at_from (suc n) rest place x)
        ≡ xor (crossed old place x) (if b then lies_in r x else lies_at_from (suc n) rest place x)
    by_case true e =
        let one : n ≡ place = same_place n place e in
        rw (← one, lies_at_earlier n (suc n) rest x (omega arith)) (xor_false (xor (crossed old n x) (lies_in r x)))
    by_case false e = ap (λ b. xor b (lies_at_from (suc n) rest place x)) (xor_false (crossed old place x))

-- whether a number is odd
abbrev pub odd : ℕ → Bool
odd zero = false
odd (suc n) = not (odd n)

pub one_more : (b : Bool) (n : ℕ) → xor b (odd n) ≡ odd (cond b 1 0 + n)
one_more true n = let e : 1 + n ≡ suc n = omega arith in rw e refl
one_more false n = let e : 0 + n ≡ n = omega arith in rw e refl

module _ (place : ℕ) (x : ℤ) where
  abbrev passes : ℤ × ℕ → ℕ
  passes bound = cond (is_passed place x bound) 1 0

  crossed_is_odd : (bounds : List (ℤ × ℕ)) → crossed bounds place x ≡ odd (sum_by passes bounds)
  crossed_is_odd [] = refl
  crossed_is_odd (bound ∷ rest) = rw (sum_by-cons passes bound rest, crossed_is_odd rest) (one_more (is_passed place x bound) (sum_by passes rest))

  pub crossed_permuted : (old new : List (ℤ × ℕ)) → IsPermutation old new → crossed new place x ≡ crossed old place x
  crossed_permuted old new moved = crossed_is_odd new ∙ (ap odd (sum_by-IsPermutation passes old new moved) ∙ sym (crossed_is_odd old))

-- all bounds, sorted
pub bounds_sorted : {T : Type 0} (numbers : Numbering T) (all : List (ℤ × ℤ)) (n : ℕ) (left : List (ℤ × ℤ)) (old new : List (Bound T)) → left ≡ [] → IsPermutation old new
    → ((place : ℕ) (x : ℤ) → x ≤ℤ numbers.greatest → xor (crossed (bounds_in_numbers numbers old) place x) (lies_at_from n left place x) ≡ lies_at all place x)
    → AreBounds numbers.greatest all (bounds_in_numbers numbers new)
bounds_sorted numbers all n left old new none moved told place x high =
    crossed_permuted place x (bounds_in_numbers numbers old) (bounds_in_numbers numbers new) (IsPermutation-map (bound_in_numbers numbers) old new moved)
    ∙ (sym (xor_false (crossed (bounds_in_numbers numbers old) place x)) ∙ (rw none at (told place x high)))

-- ---- going on to a number

module _ (greatest : ℤ) (ranges : List (ℤ × ℤ)) (n : ℤ) where
  -- which places are told so far, and the bounds still to come, tell which ranges hold each number from n on
  abbrev pub AreTold : (ℕ → Bool) → List (ℤ × ℕ) → Type 0
  AreTold told rest = (place : ℕ) (x : ℤ) → n ≤ℤ x → x ≤ℤ greatest → xor (told place) (crossed rest place x) ≡ lies_at ranges place x

  -- a bound that is passed
  pub bound_passed : (old new : ℕ → Bool) (bound : ℤ × ℕ) (left rest : List (ℤ × ℕ)) → left ≡ bound ∷ rest → bound.0 ≤ℤ n
      → ((other : ℕ) → new other ≡ xor (bound.1 == other) (old other)) → AreTold old left → AreTold new rest
  bound_passed old new bound left rest is passed over told place x low high =
      let at_most : int_le bound.0 x ≡ true = grind (arith, ints) in
      rw (over place) (regroup (bound.1 == place) (old place) (crossed rest place x) (int_le bound.0 x) at_most ∙ (rw is at (told place x low high)))
    where
      regroup : (b h c l : Bool) → l ≡ true → xor (xor b h) c ≡ xor h (xor (b && l) c)
      regroup true true true l e = rw e refl
      regroup true true false l e = rw e refl
      regroup true false c l e = rw e refl
      regroup false h c l e = refl

  -- where no bound is left up to n, the places are those at n
  pub active_places : (places : List ℕ) (rest : List (ℤ × ℕ)) → AscendFrom 0 places → n ≤ℤ greatest → ((place : ℕ) → crossed rest place n ≡ false)
      → AreActive greatest ranges n (record { places = places; rest = rest }) → places ≡ places_at ranges n
  active_places places rest ascending high none active =
      only_places 0 ranges n places ascending (λ place.
      sym (xor_false (has_place places place)) ∙ (ap (xor (has_place places place)) (sym (none place)) ∙ active place n (omega (arith, ints)) high))

module _ {T : Type 0} (numbers : Numbering T) where
  pub do_not_fall-lower : (n m : ℤ) (list : List T) → n ≤ℤ m → DoNotFallFrom numbers m list → DoNotFallFrom numbers n list
  do_not_fall-lower n m [] h d = tt
  do_not_fall-lower n m (first ∷ rest) h d = (d.0, omega (arith, ints), d.2, d.3)

  -- no bound lies below those that don't fall
  pub crossed_before : (n x : ℤ) (list : List (Bound T)) (place : ℕ) → DoNotFallFrom numbers n (map (λ bound. bound.at) list) → x <ℤ n
      → crossed (bounds_in_numbers numbers list) place x ≡ false
  crossed_before n x [] place d h = refl
  crossed_before n x (bound ∷ rest) place d h =
      let later : int_le (numbers.number bound.at) x ≡ false = grind (arith, ints) in
      rw (later, crossed_before (numbers.number bound.at) x rest place d.3 (omega (arith, ints))) (nothing (bound.place == place))
    where
      nothing : (b : Bool) → xor (b && false) false ≡ false
      nothing true = refl
      nothing false = refl

-- where all bounds that are left lie behind the later of two numbers, the same ranges hold both
none_passed : (bounds : List (ℤ × ℕ)) (n x : ℤ) (place : ℕ) → AllBehind n bounds → x ≤ℤ n → crossed bounds place x ≡ false
none_passed [] n x place h low = refl
none_passed (bound ∷ rest) n x place h low =
    let first = All-head (λ (b : ℤ × ℕ). n <ℤ b.0) bound rest h in
    let later : int_le bound.0 x ≡ false = grind (arith, ints) in
    rw (later, none_passed rest n x place (All-tail (λ (b : ℤ × ℕ). n <ℤ b.0) bound rest h) low) (nothing (bound.1 == place))
  where
    nothing : (b : Bool) → xor (b && false) false ≡ false
    nothing true = refl
    nothing false = refl

pub held_alike : (greatest : ℤ) (ranges : List (ℤ × ℤ)) (x y : ℤ) (active : Active) → x ≤ℤ y → y ≤ℤ greatest → AllBehind y active.rest
    → AreActive greatest ranges x active → (place : ℕ) → lies_at ranges place y ≡ lies_at ranges place x
held_alike greatest ranges x y active low high behind are place =
    sym (rw (none_passed active.rest y y place behind (omega (arith, ints)), xor_false (has_place active.places place)) at (are place y low high))
    ∙ (rw (none_passed active.rest y x place behind low, xor_false (has_place active.places place)) at (are place x (omega (arith, ints)) (omega (arith, ints))))

-- bounds that don't fall from m on lie all behind what is below m
pub all_behind : {T : Type 0} (numbers : Numbering T) (n m : ℤ) (list : List (Bound T)) → DoNotFallFrom numbers m (map (λ bound. bound.at) list) → n <ℤ m
    → AllBehind n (bounds_in_numbers numbers list)
all_behind numbers n m [] d h = All-nil (λ (b : ℤ × ℕ). n <ℤ b.0)
all_behind numbers n m (bound ∷ rest) d h =
    All-cons (λ (b : ℤ × ℕ). n <ℤ b.0) (bound_in_numbers numbers bound) (bounds_in_numbers numbers rest) (omega (arith, ints, d.1))
    (all_behind numbers n (numbers.number bound.at) rest d.3 (omega (arith, ints, d.1)))

-- and so do those behind m that lie further on
pub all_behind-lower : (n m : ℤ) (bounds : List (ℤ × ℕ)) → n ≤ℤ m → AllBehind m bounds → AllBehind n bounds
all_behind-lower n m bounds h behind = All-weaker (λ (b : ℤ × ℕ). m <ℤ b.0) (λ b. n <ℤ b.0) (λ b lt. omega (arith, ints)) bounds behind

-- ---- what depends alone on which ranges hold a number

-- each of the ranges holds both numbers or neither
abbrev pub HoldAlike : List (ℤ × ℤ) → ℤ → ℤ → Type 0
HoldAlike ranges x y = AllByRecursion (λ r. lies_in r x ≡ lies_in r y) ranges

pub hold_alike : (n : ℕ) (ranges : List (ℤ × ℤ)) (x y : ℤ) → ((place : ℕ) → lies_at_from n ranges place x ≡ lies_at_from n ranges place y) → HoldAlike ranges x y
hold_alike n [] x y h = tt
hold_alike n (r ∷ rest) x y h =
    let itself : (n == n) ≡ true = grind arith in
    let here : lies_in r x ≡ lies_in r y = rw itself at (h n) in
    (here, hold_alike (suc n) rest x y (λ place. others place (n == place) refl))
  where
    others : (place : ℕ) (b : Bool) → (n == place) ≡ b → lies_at_from (suc n) rest place x ≡ lies_at_from (suc n) rest place y
    others place true e =
        let one : n ≡ place = same_place n place e in
        rw (← one) (lies_at_earlier n (suc n) rest x (omega arith) ∙ sym (lies_at_earlier n (suc n) rest y (omega arith)))
    others place false e = rw e at (h place)
