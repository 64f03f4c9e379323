-- The walk over pairs in order, as the three rules say it.
use Rattle.std.proofs.Common.{◌≡◌, List, [], ◌∷◌, ◌++◌, ap, arith, sym, ◌∙◌, append_assoc, append-nil}
use Rattle.std.specs.Prelude.{ℤ, pos, ◌+ℤ◌, ◌≤ℤ◌, ◌<ℤ◌, Bool, true, false}
use Rattle.std.specs.Int.{int_max}
use Rattle.std.specs.List.{AllByRecursion}
use Rattle.std.specs.List.Sorted.{IsPermutation, IsSortedBy, IsStableBy}
use Rattle.std.specs.declared.cmp.Ordering.{Ordering}
use Rattle.std.proofs.lemmas.Int.{ints}
use Rattle.std.proofs.lemmas.List.{map_push}
use Rattle.std.proofs.lemmas.List.MinMax.{ranks_by}
use Rattle.std.proofs.lemmas.List.Sorted.{IsPermutation-map}
use Rattle.element_core.specs.Numbering.{Numbering, IsNumbering}
use Rattle.number_line.specs.Valued.{IsCanonicalMap}
use Rattle.number_line.specs.Kept.{has_less_range, placed, Split, clashes, joins, grown, kept_from, kept_and_discarded, IsDivided}
use Rattle.number_line.proofs.PlacedLemmas.{in_order_is_placed, in_order-placed, ranges_rank, sorted_is_placed, map-placed, range_cmp_total}
use Rattle.number_line.proofs.KeptLemmas.{IsWithin, divided, canonical_is_kept}
use Rattle.range_map.specs.Range.{IsRange, in_numbers}
use Rattle.range_map.specs.Valued.{pair_in_numbers, pairs_in_numbers, AreValuedRanges, IsMap}

-- a split with these before its kept and its discarded pairs
abbrev pub behind : {V : Type 0} → List ((ℤ × ℤ) × V) → List ((ℤ × ℤ) × V) → Split V → Split V
behind kept discarded split = record { kept = kept ++ split.kept; discarded = discarded ++ split.discarded }

module _ {T : Type 0} (numbers : Numbering T) {V : Type 0} where
  pub valued-push : (list : List ((T × T) × V)) (p : (T × T) × V) → AreValuedRanges numbers list → IsRange numbers p.0 → AreValuedRanges numbers (list ++ p ∷ [])
  valued-push [] p a h = (h, tt)
  valued-push (q ∷ rest) p a h = (a.0, valued-push rest p a.1 h)

-- one pair more, by each of the three rules
module _ {V : Type 0} (same : V → V → Bool) (kept discarded : List ((ℤ × ℤ) × V)) (last p : (ℤ × ℤ) × V) where
  step-discarded : clashes same last p ≡ true → (rest : List ((ℤ × ℤ) × V))
      → behind kept (discarded ++ p ∷ []) (kept_from same last rest) ≡ behind kept discarded (kept_from same last (p ∷ rest))
  step-discarded c rest = rw (c, append_assoc discarded (p ∷ []) (kept_from same last rest).discarded)

  step-grown : clashes same last p ≡ false → joins same last p ≡ true → (rest : List ((ℤ × ℤ) × V))
      → behind kept discarded (kept_from same (grown last p) rest) ≡ behind kept discarded (kept_from same last (p ∷ rest))
  step-grown c j rest = rw (c, j)

  step-kept : clashes same last p ≡ false → joins same last p ≡ false → (rest : List ((ℤ × ℤ) × V))
      → behind (kept ++ last ∷ []) discarded (kept_from same p rest) ≡ behind kept discarded (kept_from same last (p ∷ rest))
  step-kept c j rest = rw (c, j, append_assoc kept (last ∷ []) (kept_from same p rest).kept)

-- the same of pairs of a numbered type, with those seen so far behind the first one
module _ {T V : Type 0} (numbers : Numbering T) (same : V → V → Bool) (first : (T × T) × V) where
  -- what was kept and discarded, and what becomes of the last pair and the rest, is what becomes of all
  abbrev pub IsWalked : List ((T × T) × V) → List ((T × T) × V) → (T × T) × V → List ((T × T) × V) → Type 0
  IsWalked kept discarded last seen = (rest : List ((ℤ × ℤ) × V))
      → behind (pairs_in_numbers numbers kept) (pairs_in_numbers numbers discarded) (kept_from same (pair_in_numbers numbers last) rest)
      ≡ kept_from same (pair_in_numbers numbers first) (pairs_in_numbers numbers seen ++ rest)

  module _ (kept discarded : List ((T × T) × V)) (last : (T × T) × V) (seen : List ((T × T) × V)) (walked : IsWalked kept discarded last seen) (p : (T × T) × V) where
    seen_before : (rest : List ((ℤ × ℤ) × V))
        → behind (pairs_in_numbers numbers kept) (pairs_in_numbers numbers discarded) (kept_from same (pair_in_numbers numbers last) (pair_in_numbers numbers p ∷ rest))
        ≡ kept_from same (pair_in_numbers numbers first) (pairs_in_numbers numbers (seen ++ p ∷ []) ++ rest)
    seen_before rest =
        rw (map_push (pair_in_numbers numbers) seen p, append_assoc (pairs_in_numbers numbers seen) (pair_in_numbers numbers p ∷ []) rest) (walked (pair_in_numbers numbers p ∷ rest))

    pub walked-discarded : (new : List ((T × T) × V)) → new ≡ discarded ++ p ∷ [] → clashes same (pair_in_numbers numbers last) (pair_in_numbers numbers p) ≡ true
        → IsWalked kept new last (seen ++ p ∷ [])
    walked-discarded new is c rest =
        rw (is, map_push (pair_in_numbers numbers) discarded p)
        (step-discarded same (pairs_in_numbers numbers kept) (pairs_in_numbers numbers discarded) (pair_in_numbers numbers last) (pair_in_numbers numbers p) c rest ∙ seen_before rest)

    pub walked-grown : (range : T × T) → in_numbers numbers range ≡ (numbers.number last.0.0, int_max (numbers.number last.0.1) (numbers.number p.0.1))
        → clashes same (pair_in_numbers numbers last) (pair_in_numbers numbers p) ≡ false → joins same (pair_in_numbers numbers last) (pair_in_numbers numbers p) ≡ true
        → IsWalked kept discarded (range, last.1) (seen ++ p ∷ [])
    walked-grown range is c j rest =
        rw is (step-grown same (pairs_in_numbers numbers kept) (pairs_in_numbers numbers discarded) (pair_in_numbers numbers last) (pair_in_numbers numbers p) c j rest ∙ seen_before rest)

    pub walked-kept : (new : List ((T × T) × V)) → new ≡ kept ++ last ∷ []
        → clashes same (pair_in_numbers numbers last) (pair_in_numbers numbers p) ≡ false → joins same (pair_in_numbers numbers last) (pair_in_numbers numbers p) ≡ false
        → IsWalked new discarded p (seen ++ p ∷ [])
    walked-kept new is c j rest =
        rw (is, map_push (pair_in_numbers numbers) kept last)
        (step-kept same (pairs_in_numbers numbers kept) (pairs_in_numbers numbers discarded) (pair_in_numbers numbers last) (pair_in_numbers numbers p) c j rest ∙ seen_before rest)

  -- nothing is left
  pub walked-end : (kept discarded : List ((T × T) × V)) (last : (T × T) × V) (seen new given : List ((T × T) × V)) → new ≡ kept ++ last ∷ [] → given ≡ first ∷ seen
      → IsWalked kept discarded last seen
      → kept_and_discarded same (pairs_in_numbers numbers given) ≡ record { kept = pairs_in_numbers numbers new; discarded = pairs_in_numbers numbers discarded }
  walked-end kept discarded last seen new given is all walked =
      rw (is, all, map_push (pair_in_numbers numbers) kept last, ← append-nil (pairs_in_numbers numbers seen)) (sym (walked []) ∙ ending)
    where
      ending : behind (pairs_in_numbers numbers kept) (pairs_in_numbers numbers discarded) (record { kept = pair_in_numbers numbers last ∷ []; discarded = [] })
          ≡ record { kept = pairs_in_numbers numbers kept ++ pair_in_numbers numbers last ∷ []; discarded = pairs_in_numbers numbers discarded }
      ending = λ i. record { kept = pairs_in_numbers numbers kept ++ pair_in_numbers numbers last ∷ []; discarded = append-nil (pairs_in_numbers numbers discarded) i }

-- pairs of a numbered type lie between its ends
module _ {T V : Type 0} (numbers : Numbering T) (cmp : T → T → Ordering) (numbered : IsNumbering cmp numbers) (same : V → V → Bool) (reflexive : (v : V) → same v v ≡ true) where
  within : (list : List ((T × T) × V)) → AreValuedRanges numbers list → AllByRecursion (IsWithin same numbers.greatest numbers.least) (pairs_in_numbers numbers list)
  within [] a = tt
  within (p ∷ rest) a = ((numbered.low p.0.0 a.0.start, a.0.ordered, numbered.high p.0.1 a.0.end), within rest a.1)

  -- what the walk over the sorted pairs keeps and discards is what is kept and discarded of the given ones
  pub divided_sorted : (given sorted : List ((T × T) × V)) (kept discarded : List ((ℤ × ℤ) × V)) → IsPermutation given sorted
      → pairs_in_numbers numbers sorted ≡ placed (pairs_in_numbers numbers given) → AreValuedRanges numbers sorted
      → kept_and_discarded same (pairs_in_numbers numbers sorted) ≡ record { kept = kept; discarded = discarded }
      → IsCanonicalMap same numbers.least numbers.greatest kept × IsDivided same (pairs_in_numbers numbers given) kept discarded
  divided_sorted given sorted kept discarded moved is_placed ranges rules =
      divided same numbers.greatest reflexive numbers.least (pairs_in_numbers numbers given) (pairs_in_numbers numbers sorted) kept discarded
      (IsPermutation-map (pair_in_numbers numbers) given sorted moved) is_placed (within sorted ranges) rules

  -- of sorted pairs that are the list of a map all is kept
  pub sorted_is_whole : (given sorted : List ((T × T) × V)) → IsPermutation given sorted → pairs_in_numbers numbers sorted ≡ placed (pairs_in_numbers numbers given)
      → IsMap numbers same sorted → IsDivided same (pairs_in_numbers numbers given) (pairs_in_numbers numbers sorted) []
  sorted_is_whole given sorted moved is_placed map =
      (divided_sorted given sorted list [] moved is_placed map.are_ranges
      (ap (kept_and_discarded same) (sym again) ∙ canonical_is_kept same numbers.greatest numbers.least list map.canonical)).1
    where
      list : List ((ℤ × ℤ) × V)
      list = pairs_in_numbers numbers sorted

      again : placed list ≡ list
      again = in_order_is_placed has_less_range ranges_rank list (rw is_placed (in_order-placed has_less_range ranges_rank [] (pairs_in_numbers numbers given) tt))

-- a sort by range places the pairs
pub sorted_by_range : {T V : Type 0} (numbers : Numbering T) (given sorted : List ((T × T) × V))
    → IsSortedBy (λ a b. has_less_range (pair_in_numbers numbers a) (pair_in_numbers numbers b)) sorted
    → IsStableBy (λ a b. has_less_range (pair_in_numbers numbers a) (pair_in_numbers numbers b)) given sorted
    → pairs_in_numbers numbers sorted ≡ placed (pairs_in_numbers numbers given)
sorted_by_range {T} {V} numbers given sorted s t =
    ap (pairs_in_numbers numbers) (sorted_is_placed (λ (a b : (T × T) × V). has_less_range (pair_in_numbers numbers a) (pair_in_numbers numbers b))
    (ranks_by range_cmp_total (λ (p : (T × T) × V). in_numbers numbers p.0)) given sorted s t)
    ∙ map-placed has_less_range (pair_in_numbers numbers) [] given

-- ---- pairs that are the list of a map, one after the other

module _ {T V : Type 0} (numbers : Numbering T) (same : V → V → Bool) where
  -- what is known of the pairs once `last` was passed: where those from it on are in order, all are
  pub record IsMapTo (all : List ((T × T) × V)) (last : (T × T) × V) (rest : List ((T × T) × V)) : Type 0 where
    pub last_is_range : IsRange numbers last.0
    pub low : numbers.least ≤ℤ numbers.number last.0.0
    pub ranges : AreValuedRanges numbers (last ∷ rest) → AreValuedRanges numbers all
    pub canonical : IsCanonicalMap same (numbers.number last.0.0) numbers.greatest (pairs_in_numbers numbers (last ∷ rest))
        → IsCanonicalMap same numbers.least numbers.greatest (pairs_in_numbers numbers all)

  pub map_goes_on : (all : List ((T × T) × V)) (last : (T × T) × V) (left : List ((T × T) × V)) (next : (T × T) × V) (rest : List ((T × T) × V)) → left ≡ next ∷ rest
      → IsRange numbers next.0 → numbers.number last.0.1 ≤ℤ numbers.greatest → numbers.number last.0.1 <ℤ numbers.number next.0.0
      → (numbers.number next.0.0 ≡ numbers.number last.0.1 +ℤ pos 1 → same last.1 next.1 ≡ false) → IsMapTo all last left → IsMapTo all next rest
  map_goes_on all last left next rest is range high behind differs m = record {
    last_is_range = range;
    low = let low = m.low in let ordered = m.last_is_range.ordered in omega (arith, ints);
    ranges = λ h. m.ranges (m.last_is_range, rw is h);
    canonical = λ h. m.canonical (omega (arith, ints), m.last_is_range.ordered, high, rw is differs, rw is (omega (arith, ints), h.1, h.2, h.3, h.4));
  }
