-- The turns of a walk over two maps, up to a piece that is wanted.
use Rattle.std.proofs.Common.{◌≡◌, ◌+◌, ◌<◌, drop, List, [], ◌∷◌, refl, ap, sym, ◌∙◌, subst, arith}
use Rattle.std.specs.Prelude.{ℤ, pos, ◌+ℤ◌, ◌≤ℤ◌, ◌<ℤ◌, Bool, true, false, ◌&&◌, ◌||◌, is_some, Option, Some, None}
use Rattle.std.specs.Int.{int_min, int_max}
use Rattle.std.proofs.lemmas.Int.{ints, by_lt_z}
use Rattle.element_core.specs.Numbering.{Numbering}
use Rattle.number_line.specs.Pieces.{Holders, pair_at, holders_at, same_holders, values_of, value_in, in_either, in_first, in_both}
use Rattle.number_line.proofs.PieceLemmas.{EndsFrom, IsLeft, AreHeld, held_before}
use Rattle.range_map.specs.Valued.{pair_in_numbers, pairs_in_numbers}
use Rattle.blaze_joins.specs.PlaceView.{pairs_from, ranges_behind}
use Rattle.blaze_joins.specs.declared.walk.Walk.{Walk}
use Rattle.blaze_joins.specs.WalkView.{left_of, right_of, first_holder, first_end, next_number, pieces_to_come, AreUnwanted, IsWalk, IsNextOf, NoneIsNext, IsMeeting}
use Rattle.blaze_joins.proofs.WalkLemmas.{walk_held, reaches_left, reaches_right, end_low, both_above, both_held, end_held, one_begins, pieces_fewer}

-- ---- numbers that have no value

module _ {V : Type 0} (same : V → V → Bool) (lo hi n : ℤ) (all : List ((ℤ × ℤ) × V)) where
  none_left : IsLeft same hi lo all [] n → (x : ℤ) → n ≤ℤ x → pair_at all x ≡ None
  none_left l x low = l.later x low

  none_before : (p : (ℤ × ℤ) × V) (rest : List ((ℤ × ℤ) × V)) → IsLeft same hi lo all (p ∷ rest) n → (x : ℤ) → n ≤ℤ x → x <ℤ p.0.0 → pair_at all x ≡ None
  none_before p rest l x low below = l.later x low ∙ (held_before same hi lo p rest x l.canonical below).holds x (omega (arith, ints)) (omega (arith, ints))

module _ {V W : Type 0} (same : V → V → Bool) (other : W → W → Bool) (lo hi n : ℤ) (a : List ((ℤ × ℤ) × V)) (b : List ((ℤ × ℤ) × W)) where
  pub unwanted_left : (m : ℤ) → IsLeft same hi lo a [] n → AreUnwanted in_first (holders_at a b) n m
  unwanted_left m l = λ x low high. rw (none_left same lo hi n a l x low) refl

  pub unwanted_before : (p : (ℤ × ℤ) × V) (rest : List ((ℤ × ℤ) × V)) → IsLeft same hi lo a (p ∷ rest) n → AreUnwanted in_first (holders_at a b) n (int_max n p.0.0)
  unwanted_before p rest l = λ x low high. rw (none_before same lo hi n a p rest l x low (grind (arith, ints))) refl

  and_none : (e : Bool) → (e && false) ≡ false
  and_none true = refl
  and_none false = refl

  pub unwanted_both_left : (m : ℤ) → IsLeft same hi lo a [] n → AreUnwanted in_both (holders_at a b) n m
  unwanted_both_left m l = λ x low high. rw (none_left same lo hi n a l x low) refl

  pub unwanted_both_right : (m : ℤ) → IsLeft other hi lo b [] n → AreUnwanted in_both (holders_at a b) n m
  unwanted_both_right m l = λ x low high. rw (none_left other lo hi n b l x low) (and_none (is_some (pair_at a x)))

  pub unwanted_both : (p : (ℤ × ℤ) × V) (left : List ((ℤ × ℤ) × V)) (q : (ℤ × ℤ) × W) (right : List ((ℤ × ℤ) × W)) → IsLeft same hi lo a (p ∷ left) n
      → IsLeft other hi lo b (q ∷ right) n → AreUnwanted in_both (holders_at a b) n (int_max p.0.0 q.0.0)
  unwanted_both p left q right l r = λ x low high. by_lt_z x p.0.0
      (λ k. rw (none_before same lo hi n a p left l x low k) refl)
      (λ k. rw (none_before other lo hi n b q right r x low (grind (arith, ints))) (and_none (is_some (pair_at a x))))

-- ---- turns

module _ {T V W : Type 0} (numbers : Numbering T) (same : V → V → Bool) (other : W → W → Bool) (wanted : Holders V W → Bool) where
  -- the walk went on from `old` to `now`, and no number between is wanted
  pub record HasPassed (old now : Walk T V W) : Type 0 where
    pub left : now.left ≡ old.left
    pub right : now.right ≡ old.right
    pub stands : IsWalk numbers same other now
    pub further : next_number numbers old.start ≤ℤ next_number numbers now.start
    pub passed : AreUnwanted wanted (holders_at (left_of numbers old) (right_of numbers old)) (next_number numbers old.start) (next_number numbers now.start)

  pub passed_none : (old : Walk T V W) → IsWalk numbers same other old → HasPassed old old
  passed_none old is = record { left = refl; right = refl; stands = is; further = omega (arith, ints); passed = λ x low high. absurd (omega (arith, ints)) }

  module _ (old now : Walk T V W) (h : HasPassed old now) where
    -- no number up to m
    on : (m : ℤ) → AreUnwanted wanted (holders_at (left_of numbers now) (right_of numbers now)) (next_number numbers now.start) m
        → AreUnwanted wanted (holders_at (left_of numbers old) (right_of numbers old)) (next_number numbers old.start) m
    on m none = λ x low high. by_lt_z x (next_number numbers now.start) (λ k. h.passed x low k) (λ k. (rw (h.left, h.right) at none) x k high)

    pub passed_all : NoneIsNext numbers wanted now → NoneIsNext numbers wanted old
    passed_all none = on (numbers.greatest +ℤ pos 1) none

    pub passed_on : (new : Walk T V W) (end : ℤ) → next_number numbers now.start ≤ℤ end
        → AreUnwanted wanted (holders_at (left_of numbers now) (right_of numbers now)) (next_number numbers now.start) (end +ℤ pos 1)
        → next_number numbers new.start ≡ end +ℤ pos 1 → new.left ≡ now.left → new.right ≡ now.right → IsWalk numbers same other new → HasPassed old new
    passed_on new end low none goes_on left right stands = record {
      left = left ∙ h.left;
      right = right ∙ h.right;
      stands = stands;
      further = let before = h.further in omega (arith, ints);
      passed = rw goes_on (on (end +ℤ pos 1) none);
    }

    pub passed_next : (new : Walk T V W) (range : T × T) (values : Option V × Option W) (holders : Holders V W) → numbers.least ≤ℤ numbers.number range.0
        → next_number numbers now.start ≤ℤ numbers.number range.0
        → AreUnwanted wanted (holders_at (left_of numbers now) (right_of numbers now)) (next_number numbers now.start) (numbers.number range.0)
        → AreHeld same_holders (holders_at (left_of numbers now) (right_of numbers now)) numbers.greatest (numbers.number range.0) (numbers.number range.1) holders
        → values ≡ values_of holders → wanted holders ≡ true → next_number numbers new.start ≡ numbers.number range.1 +ℤ pos 1
        → IsNextOf numbers wanted old range values new
    passed_next new range values holders low begins none held shows is_wanted goes_on = record {
      holders = holders;
      shows = shows;
      is_wanted = is_wanted;
      low = low;
      begins = let before = h.further in omega (arith, ints);
      passed = on (numbers.number range.0) none;
      held = rw (h.left, h.right) at held;
      goes_on = goes_on;
    }

    -- fewer pieces come behind a number at which what holds the numbers ends
    pub turn_fewer : (new : Walk T V W) (m end : ℤ) (holders : Holders V W) → next_number numbers now.start ≤ℤ m
        → AreHeld same_holders (holders_at (left_of numbers now) (right_of numbers now)) numbers.greatest m end holders
        → next_number numbers new.start ≡ end +ℤ pos 1 → new.left ≡ now.left → new.right ≡ now.right → pieces_to_come numbers new < pieces_to_come numbers now
    turn_fewer new m end holders low held goes_on left right = rw (goes_on, left, right)
        (pieces_fewer numbers.greatest (left_of numbers now) (right_of numbers now) (next_number numbers now.start) end (let ordered = held.low in omega (arith, ints)) held.high
        (λ k. subst (λ t. same_holders t (holders_at (left_of numbers now) (right_of numbers now) (end +ℤ pos 1)) ≡ false) (sym (held.holds end held.low (omega (arith, ints)))) (held.stops k)))

-- ---- what a turn finds

module _ {T V W : Type 0} (numbers : Numbering T) (same : V → V → Bool) (other : W → W → Bool) (walk : Walk T V W) (at : IsWalk numbers same other walk) where
  -- from the next key on, what holds it on each side
  module _ (key : T) (was : walk.start ≡ Some key) (high : numbers.number key ≤ℤ numbers.greatest) (e f end : ℤ)
      (left_end : e ≡ first_end numbers.greatest (numbers.number key) (pairs_from numbers walk.left_place walk.left.now))
      (right_end : f ≡ first_end numbers.greatest (numbers.number key) (pairs_from numbers walk.right_place walk.right.now)) (least : end ≡ int_min e f) where
    pub key_is : next_number numbers walk.start ≡ numbers.number key
    key_is = rw was refl

    on_left : IsLeft same numbers.greatest numbers.least (left_of numbers walk) (pairs_from numbers walk.left_place walk.left.now) (numbers.number key)
    on_left = rw key_is at at.left

    on_right : IsLeft other numbers.greatest numbers.least (right_of numbers walk) (pairs_from numbers walk.right_place walk.right.now) (numbers.number key)
    on_right = rw key_is at at.right

    pub key_held : AreHeld same_holders (holders_at (left_of numbers walk) (right_of numbers walk)) numbers.greatest (numbers.number key) end (
      first_holder (numbers.number key) (pairs_from numbers walk.left_place walk.left.now),
      first_holder (numbers.number key) (pairs_from numbers walk.right_place walk.right.now),
    )
    key_held = walk_held same other numbers.least numbers.greatest (numbers.number key) end _ _ _ _ high on_left on_right (rw (left_end, right_end) at least)

    pub key_left : EndsFrom end (pairs_from numbers walk.left_place walk.left.now)
    key_left = reaches_left same other numbers.least numbers.greatest (numbers.number key) end _ _ _ _ high on_left on_right (rw (left_end, right_end) at least)

    pub key_right : EndsFrom end (pairs_from numbers walk.right_place walk.right.now)
    key_right = reaches_right same other numbers.least numbers.greatest (numbers.number key) end _ _ _ _ high on_left on_right (rw (left_end, right_end) at least)

  -- at the first pairs of both sides
  module _ (p : (T × T) × V) (q : (T × T) × W) (left_there : drop walk.left_place walk.left.now ≡ p ∷ drop (walk.left_place + 1) walk.left.now)
      (right_there : drop walk.right_place walk.right.now ≡ q ∷ drop (walk.right_place + 1) walk.right.now) (end : ℤ)
      (least : end ≡ int_min (numbers.number p.0.1) (numbers.number q.0.1)) where
    left_first : pairs_from numbers walk.left_place walk.left.now ≡ pair_in_numbers numbers p ∷ pairs_from numbers (walk.left_place + 1) walk.left.now
    left_first = ap (pairs_in_numbers numbers) left_there

    right_first : pairs_from numbers walk.right_place walk.right.now ≡ pair_in_numbers numbers q ∷ pairs_from numbers (walk.right_place + 1) walk.right.now
    right_first = ap (pairs_in_numbers numbers) right_there

    on_left_pair : IsLeft same numbers.greatest numbers.least (left_of numbers walk) (pair_in_numbers numbers p ∷ pairs_from numbers (walk.left_place + 1) walk.left.now)
        (next_number numbers walk.start)
    on_left_pair = rw left_first at at.left

    on_right_pair : IsLeft other numbers.greatest numbers.least (right_of numbers walk) (pair_in_numbers numbers q ∷ pairs_from numbers (walk.right_place + 1) walk.right.now)
        (next_number numbers walk.start)
    on_right_pair = rw right_first at at.right

    pub pairs_low : next_number numbers walk.start ≤ℤ end
    pairs_low = end_low same other numbers.least numbers.greatest _ end _ _ _ _ _ _ on_left_pair on_right_pair least

    pub pairs_end : AreHeld same_holders (holders_at (left_of numbers walk) (right_of numbers walk)) numbers.greatest end end (
      first_holder end (pair_in_numbers numbers p ∷ pairs_from numbers (walk.left_place + 1) walk.left.now),
      first_holder end (pair_in_numbers numbers q ∷ pairs_from numbers (walk.right_place + 1) walk.right.now),
    )
    pairs_end = end_held same other numbers.least numbers.greatest _ end _ _ _ _ _ _ on_left_pair on_right_pair least

    pub pairs_meeting : (new : Walk T V W) → next_number numbers new.start ≡ end +ℤ pos 1
        → pairs_from numbers new.left_place new.left.now ≡ ranges_behind end (pairs_from numbers walk.left_place walk.left.now)
        → pairs_from numbers new.right_place new.right.now ≡ ranges_behind end (pairs_from numbers walk.right_place walk.right.now) → IsMeeting numbers new
    pairs_meeting new start left right = rw (start, left, right, left_first, right_first)
        (one_begins same other numbers.greatest end _ _ least numbers.least _ _ on_left_pair.canonical on_right_pair.canonical)

    pub pairs_passed : AreUnwanted in_both (holders_at (left_of numbers walk) (right_of numbers walk)) (next_number numbers walk.start)
        (int_max (numbers.number p.0.0) (numbers.number q.0.0))
    pairs_passed = unwanted_both same other numbers.least numbers.greatest _ _ _ _ _ _ _ on_left_pair on_right_pair

    module _ (meeting : IsMeeting numbers walk) (start : ℤ) (begins : start ≡ int_max (numbers.number p.0.0) (numbers.number q.0.0)) where
      pub pairs_begin : next_number numbers walk.start ≤ℤ start
      pairs_begin = rw begins (rw (left_first, right_first) at meeting)

      pub pairs_above : numbers.least ≤ℤ start
      pairs_above = rw begins (both_above same other numbers.least numbers.greatest _ end _ _ _ _ _ _ on_left_pair on_right_pair least)

      pub pairs_held : start ≤ℤ end → AreHeld same_holders (holders_at (left_of numbers walk) (right_of numbers walk)) numbers.greatest start end
          (Some (pair_in_numbers numbers p), Some (pair_in_numbers numbers q))
      pairs_held ordered = both_held same other numbers.least numbers.greatest _ end _ _ _ _ _ _ on_left_pair on_right_pair least start pairs_begin begins ordered

-- ---- where neither map has a value

there_of : {X : Type 0} (h : Option ((ℤ × ℤ) × X)) → is_some (value_in h) ≡ is_some h
there_of None = refl
there_of (Some p) = refl

module _ {V W : Type 0} (holders : Holders V W) (left : Option V) (right : Option W) (shows : (left, right) ≡ values_of holders) where
  pub either_of : (is_some left || is_some right) ≡ in_either holders
  either_of = ap (λ v. is_some v.0 || is_some v.1) shows ∙ rw (there_of holders.0, there_of holders.1) refl

  pub none_either : (label : ℤ → Holders V W) (hi n end : ℤ) → AreHeld same_holders label hi n end holders → (is_some left || is_some right) ≡ false
      → AreUnwanted in_either label n (end +ℤ pos 1)
  none_either label hi n end held none = λ x low high. rw (held.holds x low (omega (arith, ints))) (sym either_of ∙ none)
