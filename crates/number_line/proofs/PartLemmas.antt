-- The parts of ranges with values in a canonical list: their values, and that they are canonical where the ranges are.
use Rattle.std.proofs.Common.{◌≡◌, List, [], ◌∷◌, ◌++◌, refl, arith, ◌∙◌}
use Rattle.std.specs.Prelude.{ℤ, pos, ◌+ℤ◌, ◌≤ℤ◌, ◌<ℤ◌, Bool, true, false, ◌&&◌, ◌||◌, if◌then◌else◌, Option, Some, None}
use Rattle.std.specs.Int.{int_max}
use Rattle.std.proofs.lemmas.Int.{ints}
use Rattle.number_line.specs.Ranges.{lies_in, holds, IsCanonical}
use Rattle.number_line.specs.Kept.{overlaps}
use Rattle.number_line.specs.Valued.{value_at, StopsBefore, IsCanonicalMap}
use Rattle.number_line.specs.Parts.{common, parts, all_with, parts_of_pairs, value_within}
use Rattle.number_line.proofs.ValuedLemmas.{canonical-lower}

common_start : (r s : ℤ × ℤ) → (r.0 ≤ℤ (common r s).0) × (s.0 ≤ℤ (common r s).0)
common_start r s = (grind (arith, ints), grind (arith, ints))

common_end : (r s : ℤ × ℤ) → ((common r s).1 ≤ℤ r.1) × ((common r s).1 ≤ℤ s.1)
common_end r s = (grind (arith, ints), grind (arith, ints))

common_ordered : (r s : ℤ × ℤ) → r.0 ≤ℤ r.1 → s.0 ≤ℤ s.1 → overlaps r s ≡ true → (common r s).0 ≤ℤ (common r s).1
common_ordered r s e f h = grind (arith, ints)

least_start : (n m : ℤ) (r s : ℤ × ℤ) → n ≤ℤ int_max r.0 m → m ≤ℤ s.0 → n ≤ℤ (common r s).0
least_start n m r s h k = grind (arith, ints)

later_start : (n m : ℤ) (r s : ℤ × ℤ) → n ≤ℤ int_max r.0 m → m ≤ℤ s.0 → s.0 ≤ℤ s.1 → n ≤ℤ int_max r.0 (s.1 +ℤ pos 2)
later_start n m r s h k o = grind (arith, ints)

start_behind : (r s : ℤ × ℤ) → ((common r s).1 +ℤ pos 1) ≤ℤ int_max r.0 (s.1 +ℤ pos 2)
start_behind r s = grind (arith, ints)

end_within : (r s : ℤ × ℤ) → ((common r s).1 +ℤ pos 1) ≤ℤ (r.1 +ℤ pos 1)
end_within r s = grind (arith, ints)

apart : (r s : ℤ × ℤ) → r.1 <ℤ s.0 → overlaps r s ≡ false
apart r s h = grind (arith, ints)

apart_before : (r s : ℤ × ℤ) → s.1 <ℤ r.0 → overlaps r s ≡ false
apart_before r s h = grind (arith, ints)

-- ranges that begin behind r have no part in it
pub parts_past : (r : ℤ × ℤ) (lo hi : ℤ) (ranges : List (ℤ × ℤ)) → IsCanonical lo hi ranges → r.1 <ℤ lo → parts r ranges ≡ []
parts_past r lo hi [] c h = refl
parts_past r lo hi (s ∷ rest) c h =
    rw (apart r s (omega (arith, ints, c.0))) (parts_past r (s.1 +ℤ pos 2) hi rest c.3 (omega (arith, ints, c.0, c.1)))

-- nor has one that ends before r
pub part_before : (r s : ℤ × ℤ) (rest : List (ℤ × ℤ)) → s.1 <ℤ r.0 → parts r (s ∷ rest) ≡ parts r rest
part_before r s rest h = rw (apart_before r s h)

pub part_first : (r s : ℤ × ℤ) (rest : List (ℤ × ℤ)) → overlaps r s ≡ true → parts r (s ∷ rest) ≡ common r s ∷ parts r rest
part_first r s rest h = rw h

-- ---- values

in_common : (r s : ℤ × ℤ) (x : ℤ) → lies_in (common r s) x ≡ (lies_in r x && lies_in s x)
in_common r s x = grind (arith, ints)

not_in_both : (r s : ℤ × ℤ) (x : ℤ) → overlaps r s ≡ false → (lies_in r x && lies_in s x) ≡ false
not_in_both r s x h = grind (arith, ints)

module _ {V : Type 0} where
  -- the value v where r and some range of the list both hold x
  value_in_parts : (v : V) (r : ℤ × ℤ) (ranges : List (ℤ × ℤ)) (rest : List ((ℤ × ℤ) × V)) (x : ℤ)
      → value_at (all_with v (parts r ranges) ++ rest) x ≡ (if lies_in r x && holds ranges x then Some v else value_at rest x)
  value_in_parts v r [] rest x = at (lies_in r x)
    where
      at : (b : Bool) → value_at rest x ≡ (if b && false then Some v else value_at rest x)
      at true = refl
      at false = refl
  value_in_parts v r (s ∷ ranges) rest x = by (overlaps r s) refl (value_in_parts v r ranges rest x)
    where
      joined : (a b c : Bool) → value_at (all_with v (parts r ranges) ++ rest) x ≡ (if a && c then Some v else value_at rest x)
          → (if a && b then Some v else value_at (all_with v (parts r ranges) ++ rest) x) ≡ (if a && (b || c) then Some v else value_at rest x)
      joined true true c e = refl
      joined true false c e = e
      joined false b c e = e

      passed : (a b c : Bool) → (a && b) ≡ false → value_at (all_with v (parts r ranges) ++ rest) x ≡ (if a && c then Some v else value_at rest x)
          → value_at (all_with v (parts r ranges) ++ rest) x ≡ (if a && (b || c) then Some v else value_at rest x)
      passed true true c wrong e = absurd (cc)
      passed true false c _ e = e
      passed false b c _ e = e

      by : (b : Bool) → overlaps r s ≡ b → value_at (all_with v (parts r ranges) ++ rest) x ≡ (if lies_in r x && holds ranges x then Some v else value_at rest x)
          → value_at (all_with v (if b then common r s ∷ parts r ranges else parts r ranges) ++ rest) x
          ≡ (if lies_in r x && (lies_in s x || holds ranges x) then Some v else value_at rest x)
      by true h e = rw (in_common r s x) (joined (lies_in r x) (lies_in s x) (holds ranges x) e)
      by false h e = passed (lies_in r x) (lies_in s x) (holds ranges x) (not_in_both r s x h) e

  -- the parts have the values of the pairs where the list holds the number
  pub value_of_parts : (pairs : List ((ℤ × ℤ) × V)) (ranges : List (ℤ × ℤ)) (x : ℤ) → value_at (parts_of_pairs pairs ranges) x ≡ value_within pairs ranges x
  value_of_parts [] ranges x = at (holds ranges x)
    where
      none : Option V
      none = None

      at : (b : Bool) → none ≡ (if b then none else none)
      at true = refl
      at false = refl
  value_of_parts (p ∷ rest) ranges x =
      value_in_parts p.1 p.0 ranges (parts_of_pairs rest ranges) x ∙ at (lies_in p.0 x) (holds ranges x) (value_of_parts rest ranges x)
    where
      at : (a b : Bool) → value_at (parts_of_pairs rest ranges) x ≡ (if b then value_at rest x else None)
          → (if a && b then Some p.1 else value_at (parts_of_pairs rest ranges) x) ≡ (if b then (if a then Some p.1 else value_at rest x) else None)
      at true true e = refl
      at true false e = e
      at false true e = e
      at false false e = e

-- ---- canonical

module _ {V : Type 0} (same : V → V → Bool) (hi : ℤ) where
  -- the first range doesn't begin before n
  abbrev BeginsFrom : ℤ → List ((ℤ × ℤ) × V) → Type 0
  BeginsFrom n [] = Unit {0}
  BeginsFrom n (p ∷ rest) = n ≤ℤ p.0.0

  begins_lower : (n m : ℤ) (list : List ((ℤ × ℤ) × V)) → m ≤ℤ n → BeginsFrom n list → BeginsFrom m list
  begins_lower n m [] h b = tt
  begins_lower n m (p ∷ rest) h b = omega (arith, ints, h, b)

  -- in a list that begins further on p doesn't go on
  stops_far : (p : (ℤ × ℤ) × V) (n : ℤ) (list : List ((ℤ × ℤ) × V)) → BeginsFrom n list → (p.0.1 +ℤ pos 1) <ℤ n → StopsBefore same p list
  stops_far p n [] c h = tt
  stops_far p n (q ∷ list) c h = λ touch. absurd (omega (arith, ints, c, h, touch))

  -- p doesn't go on in the parts of r, which all lie further on, nor in what follows them
  parts_stop : (p : (ℤ × ℤ) × V) (r : ℤ × ℤ) (v : V) (more : List ((ℤ × ℤ) × V)) (m top : ℤ) (ranges : List (ℤ × ℤ)) → IsCanonical m top ranges
      → (p.0.1 +ℤ pos 1) <ℤ m → StopsBefore same p more → StopsBefore same p (all_with v (parts r ranges) ++ more)
  parts_stop p r v more m top [] c h stops = stops
  parts_stop p r v more m top (s ∷ ranges) c h stops =
      by (overlaps r s) (parts_stop p r v more (s.1 +ℤ pos 2) top ranges c.3 (omega (arith, ints, c.0, c.1, h)) stops)
    where
      starts : (r.0 ≤ℤ (common r s).0) × (s.0 ≤ℤ (common r s).0)
      starts = common_start r s

      by : (b : Bool) → StopsBefore same p (all_with v (parts r ranges) ++ more)
          → StopsBefore same p (all_with v (if b then common r s ∷ parts r ranges else parts r ranges) ++ more)
      by true rest = λ touch. absurd (omega (arith, ints, starts.1, c.0, h, touch))
      by false rest = rest

  -- where r doesn't go on in a list behind it, no part of r does
  part_stops : (r k : ℤ × ℤ) (v : V) (list : List ((ℤ × ℤ) × V)) → k.1 ≤ℤ r.1 → StopsBefore same (r, v) list → IsCanonicalMap same (r.1 +ℤ pos 1) hi list
      → StopsBefore same (k, v) list
  part_stops r k v [] h stops c = tt
  part_stops r k v (q ∷ list) h stops c = λ touch. stops (omega (arith, ints, h, c.0, touch))

  -- the parts of a range before a canonical list that begins behind it
  parts_then : (r : ℤ × ℤ) (v : V) (more : List ((ℤ × ℤ) × V)) (n m top : ℤ) (ranges : List (ℤ × ℤ)) → IsCanonical m top ranges → n ≤ℤ int_max r.0 m
      → n ≤ℤ (r.1 +ℤ pos 1) → r.0 ≤ℤ r.1 → r.1 ≤ℤ hi → StopsBefore same (r, v) more → IsCanonicalMap same (r.1 +ℤ pos 1) hi more
      → IsCanonicalMap same n hi (all_with v (parts r ranges) ++ more)
  parts_then r v more n m top [] c low below ordered high stops rest = canonical-lower same (r.1 +ℤ pos 1) n hi more below rest
  parts_then r v more n m top (s ∷ ranges) c low below ordered high stops rest =
      by (overlaps r s) refl
      (parts_then r v more ((common r s).1 +ℤ pos 1) (s.1 +ℤ pos 2) top ranges c.3 (start_behind r s) (end_within r s) ordered high stops rest)
      (parts_then r v more n (s.1 +ℤ pos 2) top ranges c.3 (later_start n m r s low c.0 c.1) below ordered high stops rest)
    where
      ends : ((common r s).1 ≤ℤ r.1) × ((common r s).1 ≤ℤ s.1)
      ends = common_end r s

      by : (b : Bool) → overlaps r s ≡ b → IsCanonicalMap same ((common r s).1 +ℤ pos 1) hi (all_with v (parts r ranges) ++ more)
          → IsCanonicalMap same n hi (all_with v (parts r ranges) ++ more)
          → IsCanonicalMap same n hi (all_with v (if b then common r s ∷ parts r ranges else parts r ranges) ++ more)
      by true h follows others = (
        least_start n m r s low c.0,
        common_ordered r s ordered c.1 h,
        omega (arith, ints, ends.0, high),
        parts_stop (common r s, v) r v more (s.1 +ℤ pos 2) top ranges c.3 (omega (arith, ints, ends.1)) (part_stops r (common r s) v more ends.0 stops rest),
        follows,
      )
      by false h follows others = others

  -- the first part begins no sooner than its range
  begin_parts : (n : ℤ) (r : ℤ × ℤ) (v : V) (more : List ((ℤ × ℤ) × V)) (ranges : List (ℤ × ℤ)) → n ≤ℤ r.0 → BeginsFrom n more → BeginsFrom n (all_with v (parts r ranges) ++ more)
  begin_parts n r v more [] h b = b
  begin_parts n r v more (s ∷ ranges) h b = by (overlaps r s) (begin_parts n r v more ranges h b)
    where
      starts : (r.0 ≤ℤ (common r s).0) × (s.0 ≤ℤ (common r s).0)
      starts = common_start r s

      by : (w : Bool) → BeginsFrom n (all_with v (parts r ranges) ++ more) → BeginsFrom n (all_with v (if w then common r s ∷ parts r ranges else parts r ranges) ++ more)
      by true rest = omega (arith, ints, h, starts.0)
      by false rest = rest

  -- where p doesn't go on in r, it doesn't in the parts of r
  stop_parts : (p : (ℤ × ℤ) × V) (r : ℤ × ℤ) (v : V) (more : List ((ℤ × ℤ) × V)) (ranges : List (ℤ × ℤ)) → (p.0.1 +ℤ pos 1) ≤ℤ r.0
      → (r.0 ≡ p.0.1 +ℤ pos 1 → same p.1 v ≡ false) → StopsBefore same p more → StopsBefore same p (all_with v (parts r ranges) ++ more)
  stop_parts p r v more [] h stops rest = rest
  stop_parts p r v more (s ∷ ranges) h stops rest = by (overlaps r s) (stop_parts p r v more ranges h stops rest)
    where
      starts : (r.0 ≤ℤ (common r s).0) × (s.0 ≤ℤ (common r s).0)
      starts = common_start r s

      by : (w : Bool) → StopsBefore same p (all_with v (parts r ranges) ++ more) → StopsBefore same p (all_with v (if w then common r s ∷ parts r ranges else parts r ranges) ++ more)
      by true others = λ touch. stops (omega (arith, ints, h, starts.0, touch))
      by false others = others

  module _ (lo top : ℤ) (ranges : List (ℤ × ℤ)) (canonical : IsCanonical lo top ranges) where
    initial : (r : ℤ × ℤ) (n : ℤ) → n ≤ℤ r.0 → n ≤ℤ int_max r.0 lo
    initial r n h = grind (arith, ints)

    -- the first part begins no sooner than the first pair
    parts_begin : (n : ℤ) (pairs : List ((ℤ × ℤ) × V)) → IsCanonicalMap same n hi pairs → BeginsFrom n (parts_of_pairs pairs ranges)
    parts_begin n [] c = tt
    parts_begin n (q ∷ rest) c =
        begin_parts n q.0 q.1 (parts_of_pairs rest ranges) ranges c.0
        (begins_lower (q.0.1 +ℤ pos 1) n (parts_of_pairs rest ranges) (omega (arith, ints, c.0, c.1)) (parts_begin (q.0.1 +ℤ pos 1) rest c.4))

    -- where p doesn't go on in the pairs, it doesn't in their parts
    stops_in_parts : (p : (ℤ × ℤ) × V) (pairs : List ((ℤ × ℤ) × V)) → StopsBefore same p pairs → IsCanonicalMap same (p.0.1 +ℤ pos 1) hi pairs
        → StopsBefore same p (parts_of_pairs pairs ranges)
    stops_in_parts p [] stops c = tt
    stops_in_parts p (q ∷ rest) stops c =
        stop_parts p q.0 q.1 (parts_of_pairs rest ranges) ranges c.0 stops
        (stops_far p (q.0.1 +ℤ pos 1) (parts_of_pairs rest ranges) (parts_begin (q.0.1 +ℤ pos 1) rest c.4) (omega (arith, ints, c.0, c.1)))

    -- the parts of a canonical list are canonical
    pub parts_canonical : (n : ℤ) (pairs : List ((ℤ × ℤ) × V)) → IsCanonicalMap same n hi pairs → IsCanonicalMap same n hi (parts_of_pairs pairs ranges)
    parts_canonical n [] c = tt
    parts_canonical n (p ∷ rest) c =
        parts_then p.0 p.1 (parts_of_pairs rest ranges) n lo top ranges canonical (initial p.0 n c.0) (omega (arith, ints, c.0, c.1)) c.1 c.2
        (stops_in_parts p rest c.3 c.4) (parts_canonical (p.0.1 +ℤ pos 1) rest c.4)
