-- A walk over two lists: the next piece, and how many may come.
use Rattle.std.proofs.Common.{◌≡◌, ◌+◌, ◌*◌, ◌<◌, ◌≤◌, List, [], ◌∷◌, length, refl, ap, sym, arith, ◌∙◌}
use Rattle.std.specs.Prelude.{ℤ, pos, ◌+ℤ◌, ◌≤ℤ◌, ◌<ℤ◌, Bool, true, false, ◌&&◌, if◌then◌else◌, int_lt, Option, Some, None, IfSome, IsNone, ◌↔◌}
use Rattle.std.specs.Int.{int_min, int_max}
use Rattle.std.proofs.lemmas.Int.{ints, by_lt_z}
use Rattle.element_core.specs.Numbering.{Numbering}
use Rattle.number_line.specs.Valued.{IsCanonicalMap}
use Rattle.number_line.specs.Pieces.{pair_at, holders_at, same_holder, same_holders}
use Rattle.number_line.proofs.OrderLemmas.{lt_yes, lt_no}
use Rattle.number_line.proofs.PieceLemmas.{EndsFrom, ends_from-lower, IsHeld, IsLeft, AreHeld, held_both, held_by_none, held_before, held_by_first, left_stays}
use Rattle.number_line.proofs.ValuedLemmas.{inside, before, behind}
use Rattle.blaze_joins.proofs.PlaceLemmas.{left_from}
use Rattle.blaze_joins.proofs.SideLemmas.{min_low, min_low_right, min_other, min_above}
use Rattle.blaze_joins.specs.PlaceView.{ranges_from, ranges_behind}
use Rattle.blaze_joins.specs.WalkView.{first_holder, first_end, bounds_from, pieces_from, next_number, OneBegins}

-- ---- the lesser and the greater of two numbers

pub max_left_is : (a b : ℤ) → b ≤ℤ a → a ≡ int_max a b
max_left_is a b h = grind (arith, ints)

pub max_right_is : (a b : ℤ) → a ≤ℤ b → b ≡ int_max a b
max_right_is a b h = grind (arith, ints)

max_left : (a b : ℤ) → a ≤ℤ int_max a b
max_left a b = grind (arith, ints)

pub max_right : (a b : ℤ) → b ≤ℤ int_max a b
max_right a b = grind (arith, ints)

max_above : (a b c : ℤ) → a ≤ℤ c → b ≤ℤ c → int_max a b ≤ℤ c
max_above a b c h k = grind (arith, ints)

min_left_is : (a b : ℤ) → a ≤ℤ b → a ≡ int_min a b
min_left_is a b h = grind (arith, ints)

min_right_is : (a b : ℤ) → b ≤ℤ a → b ≡ int_min a b
min_right_is a b h = grind (arith, ints)

-- ---- the next piece

-- the number that comes behind `end`
pub number_behind : {T : Type 0} (numbers : Numbering T) (next : Option T) (end : ℤ) → IfSome next (λ y. numbers.IsValue y × (numbers.number y ≡ end +ℤ pos 1))
    → (IsNone next ↔ (end ≡ numbers.greatest)) → next_number numbers next ≡ end +ℤ pos 1
number_behind numbers None end after at_end = ap (λ k. k +ℤ pos 1) (sym (at_end.0 refl))
number_behind numbers (Some y) end after at_end = after.1

module _ {V : Type 0} (same : V → V → Bool) (lo hi n : ℤ) where
  pub first_held : (list : List ((ℤ × ℤ) × V)) → n ≤ℤ hi → IsCanonicalMap same lo hi list → EndsFrom n list → IsHeld same hi list n (first_end hi n list) (first_holder n list)
  first_held [] high c e = held_by_none same hi n high
  first_held (p ∷ rest) high c e = by_lt_z n p.0.0
      (λ k. rw (lt_yes n p.0.0 k) (held_before same hi lo p rest n c k))
      (λ k. rw (lt_no n p.0.0 k) (held_by_first same hi lo p rest n c k e))

module _ {V W : Type 0} (same : V → V → Bool) (other : W → W → Bool) (lo hi n end : ℤ) (a left : List ((ℤ × ℤ) × V)) (b right : List ((ℤ × ℤ) × W))
    (high : n ≤ℤ hi) (on_left : IsLeft same hi lo a left n) (on_right : IsLeft other hi lo b right n)
    (least : end ≡ int_min (first_end hi n left) (first_end hi n right)) where
  held_left : IsHeld same hi left n (first_end hi n left) (first_holder n left)
  held_left = first_held same lo hi n left high on_left.canonical on_left.ends

  held_right : IsHeld other hi right n (first_end hi n right) (first_holder n right)
  held_right = first_held other lo hi n right high on_right.canonical on_right.ends

  pub walk_held : AreHeld same_holders (holders_at a b) hi n end (first_holder n left, first_holder n right)
  walk_held = held_both lo hi a b same other left right n _ _ end _ _ least on_left on_right held_left held_right

  -- no pair that is left ends before `end`
  pub reaches_left : EndsFrom end left
  reaches_left = ends_from-lower _ _ left (rw least (min_low (first_end hi n left) (first_end hi n right))) held_left.reaches

  pub reaches_right : EndsFrom end right
  reaches_right = ends_from-lower _ _ right (rw least (min_low_right (first_end hi n left) (first_end hi n right))) held_right.reaches

-- ---- the next piece of the left list, or of both

-- a number up to which the first range goes is held up to there or further on
first_end_from : {V : Type 0} (hi n : ℤ) (p : (ℤ × ℤ) × V) (rest : List ((ℤ × ℤ) × V)) → n ≤ℤ p.0.1 → n ≤ℤ first_end hi n (p ∷ rest)
first_end_from hi n p rest h = by_lt_z n p.0.0 (λ k. rw (lt_yes n p.0.0 k) (omega (arith, ints))) (λ k. rw (lt_no n p.0.0 k) h)

module _ {V W : Type 0} (same : V → V → Bool) (other : W → W → Bool) (lo hi n m start end : ℤ) (a rest : List ((ℤ × ℤ) × V)) (p : (ℤ × ℤ) × V)
    (b right : List ((ℤ × ℤ) × W)) (on_left : IsLeft same hi lo a (p ∷ rest) n) (lag : m ≤ℤ n) (on_right : IsLeft other hi lo b right m)
    (begins : start ≡ int_max n p.0.0) (least : end ≡ int_min p.0.1 (first_end hi start (ranges_from start right))) where
  pub start_low : n ≤ℤ start
  start_low = rw begins (max_left n p.0.0)

  begun : p.0.0 ≤ℤ start
  begun = rw begins (max_right n p.0.0)

  within : start ≤ℤ p.0.1
  within = rw begins (let ends = on_left.ends in let ordered = on_left.canonical.1 in max_above n p.0.0 p.0.1 ends ordered)

  pub left_there : IsLeft same hi lo a (p ∷ rest) start
  left_there = left_stays same hi lo a (p ∷ rest) n start start_low on_left within

  pub right_there : IsLeft other hi lo b (ranges_from start right) start
  right_there = left_from other lo hi b m start right (let low = start_low in omega (arith, ints)) on_right

  least_there : end ≡ int_min (first_end hi start (p ∷ rest)) (first_end hi start (ranges_from start right))
  least_there = rw (lt_no start p.0.0 begun) least

  pub start_above : lo ≤ℤ start
  start_above = let above = on_left.canonical.0 in let low = begun in omega (arith, ints)

  pub high : start ≤ℤ hi
  high = let most = on_left.canonical.2 in let low = within in omega (arith, ints)

  pub left_held : AreHeld same_holders (holders_at a b) hi start end (Some p, first_holder start (ranges_from start right))
  left_held = rw (lt_no start p.0.0 begun) at (walk_held same other lo hi start end a (p ∷ rest) b (ranges_from start right) high left_there right_there least_there)

  pub left_reaches : EndsFrom end (ranges_from start right)
  left_reaches = reaches_right same other lo hi start end a (p ∷ rest) b (ranges_from start right) high left_there right_there least_there

module _ {V W : Type 0} (same : V → V → Bool) (other : W → W → Bool) (lo hi n end : ℤ) (a left : List ((ℤ × ℤ) × V)) (p : (ℤ × ℤ) × V)
    (b right : List ((ℤ × ℤ) × W)) (q : (ℤ × ℤ) × W) (on_left : IsLeft same hi lo a (p ∷ left) n) (on_right : IsLeft other hi lo b (q ∷ right) n)
    (least : end ≡ int_min p.0.1 q.0.1) where
  pub end_low : n ≤ℤ end
  end_low = rw least (let e = on_left.ends in let f = on_right.ends in min_above n p.0.1 q.0.1 e f)

  pub both_above : lo ≤ℤ int_max p.0.0 q.0.0
  both_above = let above = on_left.canonical.0 in let low = max_left p.0.0 q.0.0 in omega (arith, ints)

  end_left : end ≤ℤ p.0.1
  end_left = rw least (min_low p.0.1 q.0.1)

  end_right : end ≤ℤ q.0.1
  end_right = rw least (min_low_right p.0.1 q.0.1)

  -- what holds the numbers from m on, up to `end`
  module _ (m : ℤ) (low : n ≤ℤ m) (ordered : m ≤ℤ end) (at_end : end ≡ int_min (first_end hi m (p ∷ left)) (first_end hi m (q ∷ right))) where
    held_from : AreHeld same_holders (holders_at a b) hi m end (first_holder m (p ∷ left), first_holder m (q ∷ right))
    held_from = walk_held same other lo hi m end a (p ∷ left) b (q ∷ right) (let most = on_left.canonical.2 in let e = end_left in omega (arith, ints))
        (left_stays same hi lo a (p ∷ left) n m low on_left (let e = end_left in omega (arith, ints)))
        (left_stays other hi lo b (q ∷ right) n m low on_right (let e = end_right in omega (arith, ints))) at_end

  pub both_held : (start : ℤ) → n ≤ℤ start → start ≡ int_max p.0.0 q.0.0 → start ≤ℤ end → AreHeld same_holders (holders_at a b) hi start end (Some p, Some q)
  both_held start low begins ordered =
      let left_begun : p.0.0 ≤ℤ start = rw begins (max_left p.0.0 q.0.0) in
      let right_begun : q.0.0 ≤ℤ start = rw begins (max_right p.0.0 q.0.0) in
      rw (lt_no start p.0.0 left_begun, lt_no start q.0.0 right_begun) at
      (held_from start low ordered (rw (lt_no start p.0.0 left_begun, lt_no start q.0.0 right_begun) least))

  -- and the last of them
  pub end_held : AreHeld same_holders (holders_at a b) hi end end (first_holder end (p ∷ left), first_holder end (q ∷ right))
  end_held = held_from end end_low (omega (arith, ints)) (by_lt_z end p.0.1
      (λ k. let one : end ≡ q.0.1 = least ∙ min_other p.0.1 q.0.1 (λ h. omega (arith, ints)) in
      let begun : q.0.0 ≤ℤ end = let ordered = on_right.canonical.1 in omega (arith, ints) in
      rw (lt_no end q.0.0 begun) (one ∙ min_right_is (first_end hi end (p ∷ left)) q.0.1 (rw (← one) (first_end_from hi end p left end_left))))
      (λ k. let one : end ≡ p.0.1 = let e = end_left in omega (arith, ints) in
      let begun : p.0.0 ≤ℤ end = let ordered = on_left.canonical.1 in omega (arith, ints) in
      rw (lt_no end p.0.0 begun) (one ∙ min_left_is p.0.1 (first_end hi end (q ∷ right)) (rw (← one) (first_end_from hi end q right end_right)))))

-- at the least number none has
pub first_meeting : {V W : Type 0} (same : V → V → Bool) (other : W → W → Bool) (lo hi : ℤ) (left : List ((ℤ × ℤ) × V)) (right : List ((ℤ × ℤ) × W))
    → IsCanonicalMap same lo hi left → IsCanonicalMap other lo hi right → OneBegins lo left right
first_meeting same other lo hi [] right c d = tt
first_meeting same other lo hi (p ∷ left) [] c d = tt
first_meeting same other lo hi (p ∷ left) (q ∷ right) c d = let low = c.0 in let most = max_left p.0.0 q.0.0 in omega (arith, ints)

-- behind the end of one of two first ranges, not both have begun
module _ {V W : Type 0} (same : V → V → Bool) (other : W → W → Bool) (hi end : ℤ) (p : (ℤ × ℤ) × V) (q : (ℤ × ℤ) × W) (least : end ≡ int_min p.0.1 q.0.1) where
  at_right : end ≡ q.0.1 → (b : List ((ℤ × ℤ) × W)) → IsCanonicalMap other (q.0.1 +ℤ pos 1) hi b → (left : List ((ℤ × ℤ) × V)) → OneBegins (end +ℤ pos 1) (p ∷ left) b
  at_right one [] d left = tt
  at_right one (r ∷ b) d left = let low = d.0 in let most = max_right p.0.0 r.0.0 in omega (arith, ints)

  at_left : (a : List ((ℤ × ℤ) × V)) → IsCanonicalMap same (p.0.1 +ℤ pos 1) hi a → (b : List ((ℤ × ℤ) × W)) → OneBegins (end +ℤ pos 1) a b
  at_left [] c b = tt
  at_left (r ∷ a) c [] = tt
  at_left (r ∷ a) c (s ∷ b) = let low = c.0 in let most = max_left r.0.0 s.0.0 in let below = rw (← least) at (min_low p.0.1 q.0.1) in omega (arith, ints)

  pub one_begins : (lo : ℤ) (left : List ((ℤ × ℤ) × V)) (right : List ((ℤ × ℤ) × W)) → IsCanonicalMap same lo hi (p ∷ left) → IsCanonicalMap other lo hi (q ∷ right)
      → OneBegins (end +ℤ pos 1) (ranges_behind end (p ∷ left)) (ranges_behind end (q ∷ right))
  one_begins lo left right c d = by_lt_z end p.0.1
      (λ k. let one : end ≡ q.0.1 = least ∙ min_other p.0.1 q.0.1 (λ h. omega (arith, ints)) in
      rw (lt_yes end p.0.1 k, lt_no end q.0.1 (omega (arith, ints))) (at_right one right d.4 left))
      (λ k. rw (lt_no end p.0.1 k) (at_left left c.4 (ranges_behind end (q ∷ right))))

-- ---- how many pieces may come

begins_less : (n m s : ℤ) → n ≤ℤ m → (if int_lt m s then 1 else 0) ≤ (if int_lt n s then 1 else 0)
begins_less n m s h = by_lt_z m s (λ k. rw (lt_yes m s k, lt_yes n s (omega (arith, ints))) (omega arith)) (λ k. rw (lt_no m s k) (omega arith))

ends_less : (n m e : ℤ) → n ≤ℤ m → (if int_lt e m then 0 else 1) ≤ (if int_lt e n then 0 else 1)
ends_less n m e h = by_lt_z e m (λ k. rw (lt_yes e m k) (omega arith)) (λ k. rw (lt_no e m k, lt_no e n (omega (arith, ints))) (omega arith))

module _ {V : Type 0} where
  bounds_less : (n m : ℤ) (list : List ((ℤ × ℤ) × V)) → n ≤ℤ m → bounds_from m list ≤ bounds_from n list
  bounds_less n m [] h = omega arith
  bounds_less n m (p ∷ rest) h = let one = begins_less n m p.0.0 h in let other = ends_less n m p.0.1 h in let more = bounds_less n m rest h in omega arith

  bounds_most : (n : ℤ) (list : List ((ℤ × ℤ) × V)) → bounds_from n list ≤ 2 * length list
  bounds_most n [] = omega arith
  bounds_most n (p ∷ rest) = let more = bounds_most n rest in at (int_lt n p.0.0) (int_lt p.0.1 n) more
    where
      at : (s e : Bool) → bounds_from n rest ≤ 2 * length rest → ((if s then 1 else 0) + ((if e then 0 else 1) + bounds_from n rest)) ≤ 2 * length (p ∷ rest)
      at true true h = omega arith
      at true false h = omega arith
      at false true h = omega arith
      at false false h = omega arith

  same_range : (p : (ℤ × ℤ) × V) → same_holder (Some p) (Some p) ≡ true
  same_range p = grind (arith, ints)

  -- where another range, or none, holds the next number, there is a bound between
  bounds_fall : (n : ℤ) (list : List ((ℤ × ℤ) × V)) → same_holder (pair_at list n) (pair_at list (n +ℤ pos 1)) ≡ false
      → bounds_from (n +ℤ pos 1) list < bounds_from n list
  bounds_fall n [] h = cc
  bounds_fall n (p ∷ rest) h =
      let next = n +ℤ pos 1 in
      let less : n ≤ℤ next = omega (arith, ints) in
      let starts = begins_less n next p.0.0 less in
      let ends = ends_less n next p.0.1 less in
      let more = bounds_less n next rest less in
      by_lt_z n p.0.0
      (λ k. by_lt_z next p.0.0
      (λ l. let fewer = bounds_fall n rest (rw (before p.0 n k, before p.0 next l) at h) in omega arith)
      (λ l. rw (lt_yes n p.0.0 k, lt_no next p.0.0 l) (omega arith)))
      (λ k. by_lt_z p.0.1 n
      (λ l. let fewer = bounds_fall n rest (rw (behind p.0 n l, behind p.0 next (omega (arith, ints))) at h) in omega arith)
      (λ l. by_lt_z p.0.1 next
      (λ m. rw (lt_no p.0.1 n l, lt_yes p.0.1 next m) (omega arith))
      (λ m. let same = same_range p in let one = rw (inside p.0 n k l, inside p.0 next (omega (arith, ints)) m) at h in absurd (cc))))

module _ {V W : Type 0} (hi : ℤ) (a : List ((ℤ × ℤ) × V)) (b : List ((ℤ × ℤ) × W)) where
  pub pieces_most : (n : ℤ) → pieces_from hi n a b ≤ (1 + (2 * length a + 2 * length b))
  pieces_most n = let left = bounds_most n a in let right = bounds_most n b in at (int_lt hi n) left right
    where
      at : (e : Bool) → bounds_from n a ≤ 2 * length a → bounds_from n b ≤ 2 * length b → (if e then 0 else 1 + (bounds_from n a + bounds_from n b)) ≤ (1 + (2 * length a + 2 * length b))
      at true h k = omega arith
      at false h k = omega arith

  -- fewer come behind a number at which what holds the numbers ends
  pub pieces_fewer : (n end : ℤ) → n ≤ℤ end → end ≤ℤ hi → (end <ℤ hi → same_holders (holders_at a b end) (holders_at a b (end +ℤ pos 1)) ≡ false)
      → pieces_from hi (end +ℤ pos 1) a b < pieces_from hi n a b
  pieces_fewer n end low high stops = by_lt_z hi (end +ℤ pos 1)
      (λ k. rw (lt_yes hi (end +ℤ pos 1) k, lt_no hi n (omega (arith, ints))) (omega arith))
      (λ k. rw (lt_no hi (end +ℤ pos 1) k, lt_no hi n (omega (arith, ints)))
      (let left = bounds_less n end a low in let right = bounds_less n end b low in
      let left_next = bounds_less end (end +ℤ pos 1) a (omega (arith, ints)) in let right_next = bounds_less end (end +ℤ pos 1) b (omega (arith, ints)) in
      at (same_holder (pair_at a end) (pair_at a (end +ℤ pos 1))) refl (stops (omega (arith, ints))) left right left_next right_next))
    where
      at : (s : Bool) → same_holder (pair_at a end) (pair_at a (end +ℤ pos 1)) ≡ s → (s && same_holder (pair_at b end) (pair_at b (end +ℤ pos 1))) ≡ false
          → bounds_from end a ≤ bounds_from n a → bounds_from end b ≤ bounds_from n b → bounds_from (end +ℤ pos 1) a ≤ bounds_from end a → bounds_from (end +ℤ pos 1) b ≤ bounds_from end b
          → (1 + (bounds_from (end +ℤ pos 1) a + bounds_from (end +ℤ pos 1) b)) < (1 + (bounds_from n a + bounds_from n b))
      at true e h left right left_next right_next = let fewer = bounds_fall end b h in omega arith
      at false e h left right left_next right_next = let fewer = bounds_fall end a e in omega arith
