-- The cuts of a set that are still to come, and how one of them is passed over.
use Rattle.std.proofs.Common.{◌≡◌, List, [], ◌∷◌, drop, refl, arith}
use Rattle.std.specs.Prelude.{ℤ, pos, ◌+ℤ◌, ◌≤ℤ◌, Bool, true, false, Option, Some, None, IfNone, IsNone, ◌↔◌}
use Rattle.std.proofs.lemmas.Int.{ints, by_lt_z}
use Rattle.number_line.specs.Ranges.{IsCanonical}
use Rattle.number_line.proofs.RangeLemmas.{from_lower}
use Rattle.cut_points.specs.Cuts.{IsAscending, cuts, cuts_left}
use Rattle.number_line.proofs.OrderLemmas.{lt_yes, lt_no}
use Rattle.cut_points.proofs.CutLemmas.{ascending_from, nothing_left, cuts_ascend}

pub left_ascends : (lo hi : ℤ) (begun : Bool) (rs : List (ℤ × ℤ)) → IsCanonical lo hi rs → IsAscending lo hi (cuts_left hi begun rs)
left_ascends lo hi false rs c = cuts_ascend lo hi rs c
left_ascends lo hi true rs c = but_first (cuts hi rs) (cuts_ascend lo hi rs c)
  where
    but_first : (cs : List ℤ) → IsAscending lo hi cs → IsAscending lo hi (drop 1 cs)
    but_first [] a = tt
    but_first (d ∷ cs) a = ascending_from (d +ℤ pos 1) lo hi cs (omega (arith, ints)) a.2

-- the start of the first range was passed
module _ (lo hi : ℤ) (r : ℤ × ℤ) (rest : List (ℤ × ℤ)) (c : IsCanonical lo hi (r ∷ rest)) where
  none_behind : hi ≤ℤ r.1 → rest ≡ []
  none_behind h = nothing_left (r.1 +ℤ pos 2) hi rest (omega (arith, ints)) c.3

  -- no cut is to come where its end is the greatest number
  pub none_next : {T : Type 0} (after : Option T) → (IsNone after ↔ (r.1 ≡ hi)) → IfNone after (cuts_left hi true (r ∷ rest) ≡ [])
  none_next None n =
      let end : hi ≤ℤ r.1 = let e : r.1 ≡ hi = n.0 refl in omega (arith, ints) in
      rw (lt_no r.1 hi end, none_behind end) refl
  none_next (Some y) n = tt

  -- its end passed over, the next range is the first
  pub end_passed : cuts_left hi false rest ≡ drop 1 (cuts_left hi true (r ∷ rest))
  end_passed = by_lt_z r.1 hi (λ h. rw (lt_yes r.1 hi h) refl) (λ h. rw (lt_no r.1 hi h, none_behind h) refl)

  pub others_canonical : IsCanonical lo hi rest
  others_canonical = from_lower (r.1 +ℤ pos 2) lo hi rest (omega (arith, ints)) c.3
