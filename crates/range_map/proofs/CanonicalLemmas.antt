-- Canonical lists of ranges, and one range more at the end of one.
use Rattle.std.proofs.Common.{◌≡◌, List, [], ◌∷◌, ◌++◌, refl, arith, sym}
use Rattle.std.specs.Prelude.{ℤ, pos, ◌+ℤ◌, ◌-ℤ◌, ◌≤ℤ◌, ◌<ℤ◌, false, ◌||◌}
use Rattle.std.proofs.lemmas.Int.{ints}
use Rattle.std.proofs.Math.Bool.{or_assoc, or-false}
use Rattle.number_line.specs.Ranges.{lies_in, holds, IsCanonical}
use Rattle.element_core.specs.Numbering.{Numbering}
use Rattle.range_map.specs.Range.{IsRange}
use Rattle.range_map.specs.Set.{AreRanges}
use Rattle.range_map.specs.Merging.{BeginBy, EndApart}

-- an upper bound may be raised
pub to_higher : (lo high hi : ℤ) (rs : List (ℤ × ℤ)) → high ≤ℤ hi → IsCanonical lo high rs → IsCanonical lo hi rs
to_higher lo high hi [] h c = tt
to_higher lo high hi (r ∷ rest) h c = (c.0, c.1, omega (arith, ints), to_higher (r.1 +ℤ pos 2) high hi rest h c.3)

outside : (r : ℤ × ℤ) (x : ℤ) → r.1 <ℤ x → lies_in r x ≡ false
outside r x h = grind (arith, ints)

-- above the end of a canonical list no number is held
pub above_end : (lo hi : ℤ) (rs : List (ℤ × ℤ)) (x : ℤ) → IsCanonical lo hi rs → hi <ℤ x → holds rs x ≡ false
above_end lo hi [] x c h = refl
above_end lo hi (r ∷ rest) x c h = rw (outside r x (omega (arith, ints))) (above_end (r.1 +ℤ pos 2) hi rest x c.3 h)

-- the numbers of a list and one more range
pub holds-push : (rs : List (ℤ × ℤ)) (r : ℤ × ℤ) (x : ℤ) → holds (rs ++ r ∷ []) x ≡ (holds rs x || lies_in r x)
holds-push [] r x = or-false (lies_in r x)
holds-push (s ∷ rest) r x = rw (holds-push rest r x) (sym (or_assoc (lies_in s x) (holds rest x) (lies_in r x)))

-- a range two or more past the end of a canonical list
pub canonical-push : (lo hi : ℤ) (rs : List (ℤ × ℤ)) (r : ℤ × ℤ)
    → IsCanonical lo (r.0 -ℤ pos 2) rs → lo ≤ℤ r.0 → r.0 ≤ℤ r.1 → r.1 ≤ℤ hi → IsCanonical lo hi (rs ++ r ∷ [])
canonical-push lo hi [] r c p q h = (p, q, h, tt)
canonical-push lo hi (s ∷ rest) r c p q h =
    (c.0, c.1, omega (arith, ints), canonical-push (s.1 +ℤ pos 2) hi rest r c.3 (omega (arith, ints)) q h)

-- what lies within an end is apart from what begins two or more past it, and the other way round
pub apart_from_end : (lo hi n : ℤ) (rs : List (ℤ × ℤ)) → IsCanonical lo hi rs → (hi +ℤ pos 2) ≤ℤ n → EndApart n rs
apart_from_end lo hi n [] c h = tt
apart_from_end lo hi n (r ∷ rest) c h = (omega (arith, ints), apart_from_end (r.1 +ℤ pos 2) hi n rest c.3 h)

pub ends_by : (lo hi n : ℤ) (rs : List (ℤ × ℤ)) → IsCanonical lo hi rs → EndApart n rs → IsCanonical lo (n -ℤ pos 2) rs
ends_by lo hi n [] c h = tt
ends_by lo hi n (r ∷ rest) c h = (c.0, c.1, omega (arith, ints), ends_by (r.1 +ℤ pos 2) hi n rest c.3 h.1)

pub canonical-pop : (lo hi : ℤ) (rs : List (ℤ × ℤ)) (r : ℤ × ℤ)
    → IsCanonical lo hi (rs ++ r ∷ []) → IsCanonical lo (r.0 -ℤ pos 2) rs × (lo ≤ℤ r.0) × (r.0 ≤ℤ r.1) × (r.1 ≤ℤ hi)
canonical-pop lo hi [] r c = (tt, c.0, c.1, c.2)
canonical-pop lo hi (s ∷ rest) r c =
    let h = canonical-pop (s.1 +ℤ pos 2) hi rest r c.3 in
    ((c.0, c.1, omega (arith, ints), h.0), omega (arith, ints), h.2, h.3)

pub begin_by-push : (n : ℤ) (rs : List (ℤ × ℤ)) (r : ℤ × ℤ) → BeginBy n rs → r.0 ≤ℤ n → BeginBy n (rs ++ r ∷ [])
begin_by-push n [] r b h = (h, tt)
begin_by-push n (s ∷ rest) r b h = (b.0, begin_by-push n rest r b.1 h)

pub begin_by-pop : (n : ℤ) (rs : List (ℤ × ℤ)) (r : ℤ × ℤ) → BeginBy n (rs ++ r ∷ []) → BeginBy n rs × (r.0 ≤ℤ n)
begin_by-pop n [] r b = (tt, b.0)
begin_by-pop n (s ∷ rest) r b = let h = begin_by-pop n rest r b.1 in ((b.0, h.0), h.1)

pub begin_by-raise : (m n : ℤ) (rs : List (ℤ × ℤ)) → m ≤ℤ n → BeginBy m rs → BeginBy n rs
begin_by-raise m n [] h b = tt
begin_by-raise m n (r ∷ rest) h b = (omega (arith, ints), begin_by-raise m n rest h b.1)

module _ {T : Type 0} (numbers : Numbering T) where
  pub ranges-push : (rs : List (T × T)) (r : T × T) → AreRanges numbers rs → IsRange numbers r → AreRanges numbers (rs ++ r ∷ [])
  ranges-push [] r a h = (h, tt)
  ranges-push (s ∷ rest) r a h = (a.0, ranges-push rest r a.1 h)

  pub ranges-pop : (rs : List (T × T)) (r : T × T) → AreRanges numbers (rs ++ r ∷ []) → AreRanges numbers rs × IsRange numbers r
  ranges-pop [] r a = (tt, a.0)
  ranges-pop (s ∷ rest) r a = let h = ranges-pop rest r a.1 in ((a.0, h.0), h.1)
