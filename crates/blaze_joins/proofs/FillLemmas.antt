-- A canonical list with its gaps, and clones of it.
use Rattle.std.proofs.Common.{◌≡◌, List, [], ◌∷◌, ◌++◌, refl, arith, ap, sym, ◌∙◌}
use Rattle.std.specs.Prelude.{ℤ, pos, ◌+ℤ◌, ◌-ℤ◌, ◌≤ℤ◌, ◌<ℤ◌, Bool, true, Option, Some, None}
use Rattle.std.specs.Option.{option_eq}
use Rattle.std.specs.Cmp.{IsEquivalence}
use Rattle.std.specs.Cmp.Lexicographic.{options_equiv}
use Rattle.std.proofs.lemmas.Int.{ints, by_lt_z}
use Rattle.number_line.specs.Merged.{FirstStays}
use Rattle.number_line.specs.Parts.{IsPairClone, ArePairClones}
use Rattle.number_line.specs.Valued.{value_at, StopsBefore, IsCanonicalMap, HasValues}
use Rattle.number_line.proofs.CloneLemmas.{zipped_append, clones_same, clones_values}
use Rattle.number_line.proofs.OrderLemmas.{lt_yes, lt_no}
use Rattle.number_line.proofs.SameLemmas.{canonical_same}
use Rattle.number_line.proofs.ValuedLemmas.{inside, behind, value_in_first, value_in_rest, none_before_first}
use Rattle.number_line.proofs.ZippedLemmas.{IsZipped, zipped_step, zipped_end}
use Rattle.blaze_joins.specs.Filled.{IsOptionClone, gap_before, with_gaps}

-- ---- one gap

module _ {V : Type 0} where
  pub no_gap : (n next : ℤ) → next ≤ℤ n → gap_before {V = V} n next ≡ []
  no_gap n next h = rw (lt_no n next h) refl

  pub one_gap : (n last next : ℤ) → n ≤ℤ last → last +ℤ pos 1 ≡ next → gap_before {V = V} n next ≡ ((n, last), None) ∷ []
  one_gap n last next h e =
      let end : next -ℤ pos 1 ≡ last = omega (arith, ints) in
      rw (lt_yes n next (omega (arith, ints)), end) refl

  value_in_gap : (n next : ℤ) (list : List ((ℤ × ℤ) × Option V)) (x : ℤ) → n ≤ℤ x → x <ℤ next → value_at (gap_before n next ++ list) x ≡ Some None
  value_in_gap n next list x low high =
      rw (lt_yes n next (omega (arith, ints))) (value_in_first ((n, next -ℤ pos 1), None) list x (inside (n, next -ℤ pos 1) x low (omega (arith, ints))))

  value_behind_gap : (n next : ℤ) (list : List ((ℤ × ℤ) × Option V)) (x : ℤ) → next ≤ℤ x → value_at (gap_before n next ++ list) x ≡ value_at list x
  value_behind_gap n next list x h = by_lt_z n next
      (λ k. rw (lt_yes n next k) (value_in_rest ((n, next -ℤ pos 1), None) list x (behind (n, next -ℤ pos 1) x (omega (arith, ints)))))
      (λ k. rw (lt_no n next k) refl)

-- ---- a canonical list with its gaps

module _ {V : Type 0} (same : V → V → Bool) (hi : ℤ) where
  stops : (p : (ℤ × ℤ) × V) (rest : List ((ℤ × ℤ) × V)) → StopsBefore same p rest
      → StopsBefore (option_eq same) (p.0, Some p.1) (with_gaps (p.0.1 +ℤ pos 1) hi rest)
  stops p [] s = by_lt_z (p.0.1 +ℤ pos 1) (hi +ℤ pos 1) (λ k. rw (lt_yes (p.0.1 +ℤ pos 1) (hi +ℤ pos 1) k) (λ touch. refl))
      (λ k. rw (lt_no (p.0.1 +ℤ pos 1) (hi +ℤ pos 1) k) tt)
  stops p (q ∷ rest) s = by_lt_z (p.0.1 +ℤ pos 1) q.0.0 (λ k. rw (lt_yes (p.0.1 +ℤ pos 1) q.0.0 k) (λ touch. refl))
      (λ k. rw (lt_no (p.0.1 +ℤ pos 1) q.0.0 k) (λ touch. s touch))

  pub canonical_with_gaps : (n : ℤ) (pairs : List ((ℤ × ℤ) × V)) → IsCanonicalMap same n hi pairs → IsCanonicalMap (option_eq same) n hi (with_gaps n hi pairs)
  canonical_with_gaps n [] c = by_lt_z n (hi +ℤ pos 1)
      (λ k. rw (lt_yes n (hi +ℤ pos 1) k) (omega (arith, ints), omega (arith, ints), omega (arith, ints), tt, tt)) (λ k. rw (lt_no n (hi +ℤ pos 1) k) tt)
  canonical_with_gaps n (p ∷ rest) c =
      let later = canonical_with_gaps (p.0.1 +ℤ pos 1) rest c.4 in
      by_lt_z n p.0.0
      (λ k. rw (lt_yes n p.0.0 k) (before later k))
      (λ k. rw (lt_no n p.0.0 k) (c.0, c.1, c.2, stops p rest c.3, later))
    where
      before : IsCanonicalMap (option_eq same) (p.0.1 +ℤ pos 1) hi (with_gaps (p.0.1 +ℤ pos 1) hi rest) → n <ℤ p.0.0
          → IsCanonicalMap (option_eq same) n hi (((n, p.0.0 -ℤ pos 1), None) ∷ (p.0, Some p.1) ∷ with_gaps (p.0.1 +ℤ pos 1) hi rest)
      before later k = (omega (arith, ints), omega (arith, ints), omega (arith, ints), (λ touch. refl), (omega (arith, ints), c.1, c.2, stops p rest c.3, later))

  -- each number has a value, or none
  pub values_with_gaps : (n : ℤ) (pairs : List ((ℤ × ℤ) × V)) (x : ℤ) → IsCanonicalMap same n hi pairs → n ≤ℤ x → x ≤ℤ hi
      → value_at (with_gaps n hi pairs) x ≡ Some (value_at pairs x)
  values_with_gaps n [] x c low high =
      rw (lt_yes n (hi +ℤ pos 1) (omega (arith, ints)))
      (value_in_first ((n, (hi +ℤ pos 1) -ℤ pos 1), None) [] x (inside (n, (hi +ℤ pos 1) -ℤ pos 1) x low (omega (arith, ints))))
  values_with_gaps n (p ∷ rest) x c low high =
      by_lt_z x p.0.0 gap (λ k. by_lt_z p.0.1 x (λ m. later k m (values_with_gaps (p.0.1 +ℤ pos 1) rest x c.4 (omega (arith, ints)) high)) (within k))
    where
      all : List ((ℤ × ℤ) × Option V)
      all = (p.0, Some p.1) ∷ with_gaps (p.0.1 +ℤ pos 1) hi rest

      gap : x <ℤ p.0.0 → value_at (gap_before n p.0.0 ++ all) x ≡ Some (value_at (p ∷ rest) x)
      gap k = value_in_gap n p.0.0 all x low k ∙ ap (λ v. Some v) (sym (none_before_first same n hi p rest x c k))

      within : p.0.0 ≤ℤ x → x ≤ℤ p.0.1 → value_at (gap_before n p.0.0 ++ all) x ≡ Some (value_at (p ∷ rest) x)
      within k m =
          value_behind_gap n p.0.0 all x k
          ∙ (value_in_first (p.0, Some p.1) (with_gaps (p.0.1 +ℤ pos 1) hi rest) x (inside p.0 x k m)
          ∙ ap (λ v. Some v) (sym (value_in_first p rest x (inside p.0 x k m))))

      later : p.0.0 ≤ℤ x → p.0.1 <ℤ x → value_at (with_gaps (p.0.1 +ℤ pos 1) hi rest) x ≡ Some (value_at rest x) → value_at (gap_before n p.0.0 ++ all) x ≡ Some (value_at (p ∷ rest) x)
      later k m rest_values =
          value_behind_gap n p.0.0 all x k
          ∙ (value_in_rest (p.0, Some p.1) (with_gaps (p.0.1 +ℤ pos 1) hi rest) x (behind p.0 x m)
          ∙ (rest_values ∙ ap (λ v. Some v) (sym (value_in_rest p rest x (behind p.0 x m)))))

-- ---- clones of it

-- with each clone stands the label of the first number of its range
clones_stand : {V : Type 0} (is_clone : V → V → Type 0) (same : V → V → Bool) (label : ℤ → Option V) (lo hi : ℤ) (list copy : List ((ℤ × ℤ) × V))
    → IsCanonicalMap same lo hi list → ArePairClones is_clone list copy → ((x : ℤ) → lo ≤ℤ x → x ≤ℤ hi → label x ≡ value_at list x)
    → FirstStays is_clone label copy
clones_stand is_clone same label lo hi [] [] c h at_each = tt
clones_stand is_clone same label lo hi [] (q ∷ copy) c h at_each = absurd h
clones_stand is_clone same label lo hi (p ∷ list) [] c h at_each = absurd h
clones_stand is_clone same label lo hi (p ∷ list) (q ∷ copy) c h at_each =
    let range : q.0 ≡ p.0 = h.0.0 in
    let first : label q.0.0 ≡ Some p.1 = rw range (at_each p.0.0 c.0 (omega (arith, ints)) ∙ value_in_first p list p.0.0 (inside p.0 p.0.0 (omega (arith, ints)) c.1)) in (
      rw first h.0.1,
      clones_stand is_clone same label (p.0.1 +ℤ pos 1) hi list copy c.4 h.1
          (λ x low high. at_each x (omega (arith, ints)) high ∙ value_in_rest p list x (behind p.0 x (omega (arith, ints)))),
    )

module _ {V : Type 0} (is_clone : V → V → Type 0) where
  pub options_equal : (same : V → V → Bool) → ((a b : V) → is_clone a b → same b a ≡ true) → (a b : Option V) → IsOptionClone is_clone a b → option_eq same b a ≡ true
  options_equal same equal None b h = rw h refl
  options_equal same equal (Some x) None h = absurd h
  options_equal same equal (Some x) (Some y) h = equal x y h

  module _ (same : V → V → Bool) (equal : (a b : V) → is_clone a b → same b a ≡ true) (lo hi : ℤ) (pairs : List ((ℤ × ℤ) × V)) (copy : List ((ℤ × ℤ) × Option V))
      (c : IsCanonicalMap same lo hi pairs) (h : ArePairClones (IsOptionClone is_clone) (with_gaps lo hi pairs) copy) where
    pub canonical_copy : IsEquivalence same → IsCanonicalMap (option_eq same) lo hi copy
    canonical_copy eq = canonical_same (option_eq same) (options_equiv eq) lo hi copy (with_gaps lo hi pairs)
        (clones_same (IsOptionClone is_clone) (option_eq same) (options_equal same equal) (with_gaps lo hi pairs) copy h) (canonical_with_gaps same hi lo pairs c)

    pub filled_values : HasValues (option_eq same) (λ x. Some (value_at pairs x)) lo hi copy
    filled_values x low high =
        rw (← (values_with_gaps same hi lo pairs x c low high)) (clones_values (IsOptionClone is_clone) (option_eq same) (options_equal same equal) (with_gaps lo hi pairs) copy x h)

    pub filled_stand : FirstStays (IsOptionClone is_clone) (λ x. Some (value_at pairs x)) copy
    filled_stand = clones_stand (IsOptionClone is_clone) (option_eq same) (λ x. Some (value_at pairs x)) lo hi (with_gaps lo hi pairs) copy
        (canonical_with_gaps same hi lo pairs c) h (λ x low high. sym (values_with_gaps same hi lo pairs x c low high))

  -- ---- a list that is made gap by gap and range by range

  abbrev pub IsFilled : (left all made : List ((ℤ × ℤ) × Option V)) → Type 0
  IsFilled left all made = IsZipped (IsPairClone (IsOptionClone is_clone)) left all made

  gap_zips : (n next : ℤ) → ArePairClones (IsOptionClone is_clone) (gap_before n next) (gap_before n next)
  gap_zips n next = by_lt_z n next (λ k. rw (lt_yes n next k) ((refl, refl), tt)) (λ k. rw (lt_no n next k) tt)

  -- the gap before the next range, and that range with a clone of its value
  pub pair_filled : (hi n next : ℤ) (left rest : List ((ℤ × ℤ) × V)) (p : (ℤ × ℤ) × V) (value : V) (all made mid new : List ((ℤ × ℤ) × Option V))
      → left ≡ p ∷ rest → next ≡ p.0.1 +ℤ pos 1 → mid ≡ made ++ gap_before n p.0.0 → new ≡ mid ++ (p.0, Some value) ∷ [] → is_clone p.1 value
      → IsFilled (with_gaps n hi left) all made → IsFilled (with_gaps next hi rest) all new
  pair_filled hi n next left rest p value all made mid new is above gap put clone so_far =
      let one : IsFilled ((p.0, Some p.1) ∷ with_gaps (p.0.1 +ℤ pos 1) hi rest) all mid =
      zipped_append (IsPairClone (IsOptionClone is_clone)) (with_gaps n hi left) (gap_before n p.0.0) ((p.0, Some p.1) ∷ with_gaps (p.0.1 +ℤ pos 1) hi rest) all made mid
      (gap_before n p.0.0) gap (ap (with_gaps n hi) is) (gap_zips n p.0.0) so_far in
      rw above (zipped_step (IsPairClone (IsOptionClone is_clone)) ((p.0, Some p.1) ∷ with_gaps (p.0.1 +ℤ pos 1) hi rest) (with_gaps (p.0.1 +ℤ pos 1) hi rest) all mid new
      (p.0, Some p.1) (p.0, Some value) put refl (refl, clone) one)

  -- no range is left, and the gap behind the last one was put
  pub end_filled : (hi n : ℤ) (left : List ((ℤ × ℤ) × V)) (all made new : List ((ℤ × ℤ) × Option V)) → left ≡ [] → n ≤ℤ hi → new ≡ made ++ ((n, hi), None) ∷ []
      → IsFilled (with_gaps n hi left) all made → ArePairClones (IsOptionClone is_clone) all new
  end_filled hi n left all made new none low put so_far =
      zipped_end (IsPairClone (IsOptionClone is_clone)) [] all new refl
      (zipped_step (IsPairClone (IsOptionClone is_clone)) (with_gaps n hi left) [] all made new ((n, hi), None) ((n, hi), None) put
      (ap (with_gaps n hi) none ∙ one_gap n hi (hi +ℤ pos 1) low refl) (refl, refl) so_far)

  -- the last range ends at the greatest number
  pub full_filled : (same : V → V → Bool) (hi n : ℤ) (left : List ((ℤ × ℤ) × V)) (all made : List ((ℤ × ℤ) × Option V)) → IsCanonicalMap same n hi left → hi <ℤ n
      → IsFilled (with_gaps n hi left) all made → ArePairClones (IsOptionClone is_clone) all made
  full_filled same hi n [] all made c above so_far =
      zipped_end (IsPairClone (IsOptionClone is_clone)) (gap_before n (hi +ℤ pos 1)) all made (no_gap n (hi +ℤ pos 1) (omega (arith, ints))) so_far
  full_filled same hi n (p ∷ rest) all made c above so_far = absurd (omega (arith, ints))
