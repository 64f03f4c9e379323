-- Two canonical lists merged into one.
use Rattle.std.proofs.Common.{◌≡◌, List, [], ◌∷◌, ◌++◌, refl, ap, arith, sym, ◌∙◌}
use Rattle.std.specs.Prelude.{ℤ, pos, ◌+ℤ◌, ◌-ℤ◌, ◌≤ℤ◌, ◌<ℤ◌, Bool, false, ◌||◌, ◌&&◌, int_le}
use Rattle.std.specs.Int.{int_min, int_max}
use Rattle.std.proofs.lemmas.Int.{ints}
use Rattle.std.proofs.lemmas.Grind.{common_steps}
use Rattle.std.proofs.Math.Bool.{or_assoc}
use Rattle.number_line.specs.Ranges.{lies_in, holds, IsCanonical}
use Rattle.number_line.proofs.RangeLemmas.{from_lower}
use Rattle.std.proofs.lemmas.List.{map_push}
use Rattle.element_core.specs.Numbering.{Numbering}
use Rattle.range_map.specs.Range.{IsRange, in_numbers}
use Rattle.range_map.specs.Set.{all_in_numbers, AreRanges}
use Rattle.range_map.specs.Merging.{BeginBy, IsTaken, IsJoined}
use Rattle.range_map.proofs.CanonicalLemmas.{holds-push, canonical-push, canonical-pop, begin_by-push, begin_by-pop, begin_by-raise, ranges-push, ranges-pop}

-- ---- the range that begins first

module _ (hi : ℤ) where
  behind : (n : ℤ) (r : ℤ × ℤ) (rest : List (ℤ × ℤ)) → IsCanonical n hi (r ∷ rest) → IsCanonical r.0 hi rest
  behind n r rest c = from_lower (r.1 +ℤ pos 2) r.0 hi rest (omega (arith, ints)) c.3

  pub taken_left_alone : (a : ℤ × ℤ) (l : List (ℤ × ℤ)) → IsTaken hi (a ∷ l) [] a l []
  taken_left_alone a l = record {
    members = λ x. or_assoc (lies_in a x) (holds l x) false;
    range = λ n p q. (p.0, p.1, p.2, behind n a l p, tt);
  }

  pub taken_right_alone : (b : ℤ × ℤ) (k : List (ℤ × ℤ)) → IsTaken hi [] (b ∷ k) b [] k
  taken_right_alone b k = record {
    members = λ x. refl;
    range = λ n p q. (q.0, q.1, q.2, tt, behind n b k q);
  }

  pub taken_left : (a b : ℤ × ℤ) (l k : List (ℤ × ℤ)) → a.0 ≤ℤ b.0 → IsTaken hi (a ∷ l) (b ∷ k) a l (b ∷ k)
  taken_left a b l k h = record {
    members = λ x. or_assoc (lies_in a x) (holds l x) (holds (b ∷ k) x);
    range = λ n p q. (p.0, p.1, p.2, behind n a l p, (h, q.1, q.2, q.3));
  }

  to_front : (p q r : Bool) → (p || (q || r)) ≡ (q || (p || r))
  to_front p q r = grind (arith, common_steps)

  pub taken_right : (a b : ℤ × ℤ) (l k : List (ℤ × ℤ)) → b.0 <ℤ a.0 → IsTaken hi (a ∷ l) (b ∷ k) b (a ∷ l) k
  taken_right a b l k h = record {
    members = λ x. to_front (holds (a ∷ l) x) (lies_in b x) (holds k x);
    range = λ n p q. (q.0, q.1, q.2, (omega (arith, ints), p.1, p.2, p.3), behind n b k q);
  }

-- ---- one range more, joined with the last one where they overlap or touch

joined_range : (x a b c d : ℤ) → a ≤ℤ c → a ≤ℤ b → c ≤ℤ d → c ≤ℤ (b +ℤ pos 1)
    → (int_le (int_min a c) x && int_le x (int_max b d)) ≡ ((int_le a x && int_le x b) || (int_le c x && int_le x d))
joined_range x a b c d p q r s = grind (arith, ints)

module _ (lo hi : ℤ) where
  pub joined_first : (r : ℤ × ℤ) → lo ≤ℤ r.0 → r.0 ≤ℤ r.1 → r.1 ≤ℤ hi → IsJoined lo hi [] r (r ∷ [])
  joined_first r p q h = record {
    canonical = (p, q, h, tt);
    members = λ x. holds-push [] r x;
    begin_by = (omega (arith, ints), tt);
  }

  pub joined_last : (xs : List (ℤ × ℤ)) (last r cover : ℤ × ℤ)
      → IsCanonical lo hi (xs ++ last ∷ []) → BeginBy r.0 (xs ++ last ∷ []) → r.0 ≤ℤ r.1 → r.1 ≤ℤ hi → r.0 ≤ℤ (last.1 +ℤ pos 1)
      → cover.0 ≡ int_min last.0 r.0 → cover.1 ≡ int_max last.1 r.1
      → IsJoined lo hi (xs ++ last ∷ []) r (xs ++ cover ∷ [])
  joined_last xs last r cover c b q h t e f =
      let u = canonical-pop lo hi xs last c in
      let v = begin_by-pop r.0 xs last b in
      let start : cover.0 ≡ last.0 = e ∙ grind (arith, ints) in
      let top : (cover.0 ≤ℤ cover.1) × (cover.1 ≤ℤ hi) = rw (start, f) (grind (arith, ints), grind (arith, ints)) in
      record {
        canonical = canonical-push lo hi xs cover (rw start u.0) (rw start u.1) top.0 top.1;
        members = λ x. holds-push xs cover x
            ∙ (ap (λ b. holds xs x || b) (rw (e, f) (joined_range x last.0 last.1 r.0 r.1 v.1 u.2 q t))
            ∙ (sym (or_assoc (holds xs x) (lies_in last x) (lies_in r x)) ∙ sym (ap (λ b. b || lies_in r x) (holds-push xs last x))));
        begin_by = begin_by-push r.0 xs cover v.0 (rw start v.1);
      }

  pub joined_apart : (xs : List (ℤ × ℤ)) (last r : ℤ × ℤ)
      → IsCanonical lo hi (xs ++ last ∷ []) → BeginBy r.0 (xs ++ last ∷ []) → r.0 ≤ℤ r.1 → r.1 ≤ℤ hi → (last.1 +ℤ pos 2) ≤ℤ r.0
      → IsJoined lo hi (xs ++ last ∷ []) r ((xs ++ last ∷ []) ++ r ∷ [])
  joined_apart xs last r c b q h t =
      let u = canonical-pop lo hi xs last c in
      record {
        canonical = canonical-push lo hi (xs ++ last ∷ []) r (canonical-push lo (r.0 -ℤ pos 2) xs last u.0 u.1 u.2 (omega (arith, ints))) (omega (arith, ints)) q h;
        members = λ x. holds-push (xs ++ last ∷ []) r x;
        begin_by = begin_by-push r.0 (xs ++ last ∷ []) r b (omega (arith, ints));
      }

-- the same of ranges of a numbered type
module _ {T : Type 0} (numbers : Numbering T) (old xs new : List (T × T)) (last r : T × T) (was : old ≡ xs ++ last ∷ [])
    (are_ranges : AreRanges numbers old) (canonical : IsCanonical numbers.least numbers.greatest (all_in_numbers numbers old))
    (begin_by : BeginBy (numbers.number r.0) (all_in_numbers numbers old)) (range : IsRange numbers r) (high : numbers.number r.1 ≤ℤ numbers.greatest) where
  old_in_numbers : all_in_numbers numbers old ≡ all_in_numbers numbers xs ++ in_numbers numbers last ∷ []
  old_in_numbers = rw was (map_push (in_numbers numbers) xs last)

  pub pushed_last : (cover : T × T) → new ≡ xs ++ cover ∷ [] → numbers.number r.0 ≤ℤ (numbers.number last.1 +ℤ pos 1)
      → numbers.number cover.0 ≡ int_min (numbers.number last.0) (numbers.number r.0)
      → numbers.number cover.1 ≡ int_max (numbers.number last.1) (numbers.number r.1)
      → IsRange numbers cover
      → AreRanges numbers new × IsJoined numbers.least numbers.greatest (all_in_numbers numbers old) (in_numbers numbers r) (all_in_numbers numbers new)
  pushed_last cover is touches start end h = (
    rw is (ranges-push numbers xs cover (ranges-pop numbers xs last (rw was at are_ranges)).0 h),
    rw (is, map_push (in_numbers numbers) xs cover, old_in_numbers)
        (joined_last numbers.least numbers.greatest (all_in_numbers numbers xs) (in_numbers numbers last) (in_numbers numbers r) (in_numbers numbers cover)
        (rw old_in_numbers at canonical) (rw old_in_numbers at begin_by) range.ordered high touches start end),
  )

  pub pushed_apart : new ≡ (xs ++ last ∷ []) ++ r ∷ [] → (numbers.number last.1 +ℤ pos 2) ≤ℤ numbers.number r.0
      → AreRanges numbers new × IsJoined numbers.least numbers.greatest (all_in_numbers numbers old) (in_numbers numbers r) (all_in_numbers numbers new)
  pushed_apart is apart = (
    rw is (ranges-push numbers (xs ++ last ∷ []) r (rw was at are_ranges) range),
    rw (is, map_push (in_numbers numbers) (xs ++ last ∷ []) r, map_push (in_numbers numbers) xs last, old_in_numbers)
        (joined_apart numbers.least numbers.greatest (all_in_numbers numbers xs) (in_numbers numbers last) (in_numbers numbers r)
        (rw old_in_numbers at canonical) (rw old_in_numbers at begin_by) range.ordered high apart),
  )

-- ---- the walk

-- `out` holds what the lists `a` and `b` held before `left` and `right`, which are left of them
pub record IsMerged (lo hi : ℤ) (a b out left right : List (ℤ × ℤ)) : Type 0 where
  pub canonical : IsCanonical lo hi out
  pub members : (x : ℤ) → (holds out x || (holds left x || holds right x)) ≡ (holds a x || holds b x)
  pub reached : ℤ
  pub begin_by : BeginBy reached out
  pub from_lo : lo ≤ℤ reached
  pub left_canonical : IsCanonical reached hi left
  pub right_canonical : IsCanonical reached hi right

module _ (lo hi : ℤ) (a b : List (ℤ × ℤ)) where
  -- what the next range meets, before it is joined
  pub merged_next : (out left right : List (ℤ × ℤ)) (r : ℤ × ℤ) (l k : List (ℤ × ℤ))
      → IsMerged lo hi a b out left right → IsTaken hi left right r l k
      → BeginBy r.0 out × (lo ≤ℤ r.0) × (r.0 ≤ℤ r.1) × (r.1 ≤ℤ hi)
  merged_next out left right r l k m t =
      let h = t.range m.reached m.left_canonical m.right_canonical in
      let from_lo = m.from_lo in
      (begin_by-raise m.reached r.0 out h.0 m.begin_by, omega (arith, ints), h.1, h.2)

  pub merged_step : (out left right : List (ℤ × ℤ)) (r : ℤ × ℤ) (l k new : List (ℤ × ℤ))
      → IsMerged lo hi a b out left right → IsTaken hi left right r l k
      → IsJoined lo hi out r new → IsMerged lo hi a b new l k
  merged_step out left right r l k new m t j =
      let h = t.range m.reached m.left_canonical m.right_canonical in
      let from_lo = m.from_lo in
      record {
        canonical = j.canonical;
        members = λ x. rw (j.members x, or_assoc (holds out x) (lies_in r x) (holds l x || holds k x), ← t.members x) (m.members x);
        reached = r.0;
        begin_by = j.begin_by;
        from_lo = omega (arith, ints);
        left_canonical = h.3;
        right_canonical = h.4;
      }
