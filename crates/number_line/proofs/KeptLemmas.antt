-- What is kept of pairs in order is a canonical list, which accounts for all of them.
use Rattle.std.proofs.Common.{◌≡◌, List, [], ◌∷◌, ◌++◌, refl, ap, arith, ◌∙◌}
use Rattle.std.specs.Prelude.{ℤ, pos, ◌+ℤ◌, ◌≤ℤ◌, ◌<ℤ◌, Bool, true, false, not, ◌&&◌, ◌||◌, if◌then◌else◌, Some, None}
use Rattle.std.specs.Int.{int_max}
use Rattle.std.specs.List.{AllByRecursion}
use Rattle.std.specs.List.Sorted.{IsPermutation}
use Rattle.std.proofs.lemmas.Int.{ints, by_lt_z}
use Rattle.std.proofs.lemmas.List.Sorted.{IsPermutation-refl, IsPermutation-sym, IsPermutation-trans, IsPermutation-cons, IsPermutation-middle}
use Rattle.number_line.specs.Ranges.{lies_in}
use Rattle.number_line.specs.Valued.{value_at, StopsBefore, IsCanonicalMap}
use Rattle.number_line.specs.Kept.{has_less_range, placed, overlaps, touches, clashes, joins, grown, kept_from, kept_and_discarded, HasItsValue, HasAnother, IsAccount, IsDivided}
use Rattle.number_line.proofs.PlacedLemmas.{by_cases, NoneBelow, InOrder, in_order-placed, in_order_is_placed, ranges_rank}
use Rattle.number_line.proofs.ValuedLemmas.{inside, behind, lies_within, value_in_rest}

-- ---- the three rules in numbers

clash_tells : (r s : ℤ × ℤ) (b : Bool) → (overlaps r s && not b) ≡ true → (s.0 ≤ℤ r.1) × (b ≡ false)
clash_tells r s true h = absurd (never (overlaps r s) h)
  where
    never : (a : Bool) → (a && false) ≡ true → ⊥
    never true k = cc
    never false k = cc
clash_tells r s false h = (grind (arith, ints), refl)

join_tells : (r s : ℤ × ℤ) (b : Bool) → ((overlaps r s || touches r s) && b) ≡ true → (s.0 ≤ℤ (r.1 +ℤ pos 1)) × (b ≡ true)
join_tells r s true h = (grind (arith, ints), refl)
join_tells r s false h = absurd (never (overlaps r s || touches r s) h)
  where
    never : (a : Bool) → (a && false) ≡ true → ⊥
    never true k = cc
    never false k = cc

apart_tells : (r s : ℤ × ℤ) (b : Bool) → r.0 ≤ℤ s.0 → s.0 ≤ℤ s.1 → (overlaps r s && not b) ≡ false → ((overlaps r s || touches r s) && b) ≡ false
    → ((r.1 +ℤ pos 1) ≤ℤ s.0) × (s.0 ≡ r.1 +ℤ pos 1 → b ≡ false)
apart_tells r s true p q c j = (grind (arith, ints), λ e. absurd (touching (grind (arith, ints)) e))
  where
    touching : (r.1 +ℤ pos 2) ≤ℤ s.0 → s.0 ≡ r.1 +ℤ pos 1 → ⊥
    touching far e = omega (arith, ints)
apart_tells r s false p q c j = (grind (arith, ints), λ e. refl)

-- and back: a pair that begins behind the last one neither clashes nor joins, but where it touches with the same value
no_clash : (r s : ℤ × ℤ) (b : Bool) → (r.1 +ℤ pos 1) ≤ℤ s.0 → (overlaps r s && not b) ≡ false
no_clash r s true h = grind (arith, ints)
no_clash r s false h = grind (arith, ints)

no_join : (r s : ℤ × ℤ) (b : Bool) → (r.1 +ℤ pos 1) ≤ℤ s.0 → (s.0 ≡ r.1 +ℤ pos 1 → b ≡ false) → ((overlaps r s || touches r s) && b) ≡ false
no_join r s true h e = by_lt_z (r.1 +ℤ pos 1) s.0 (λ k. grind (arith, ints)) (λ k. let wrong : true ≡ false = e (omega (arith, ints)) in absurd (cc))
no_join r s false h e = grind (arith, ints)

module _ {V : Type 0} (same : V → V → Bool) (hi : ℤ) where
  -- the ranges begin in order from lo on; none is empty, and none ends past hi
  abbrev pub BeginFrom : ℤ → List ((ℤ × ℤ) × V) → Type 0
  BeginFrom lo [] = Unit {0}
  BeginFrom lo (p ∷ rest) = (lo ≤ℤ p.0.0) × (p.0.0 ≤ℤ p.0.1) × (p.0.1 ≤ℤ hi) × BeginFrom p.0.0 rest

  begin-lower : (lo low : ℤ) (list : List ((ℤ × ℤ) × V)) → low ≤ℤ lo → BeginFrom lo list → BeginFrom low list
  begin-lower lo low [] h b = tt
  begin-lower lo low (p ∷ rest) h b = (omega (arith, ints), b.1, b.2, b.3)

  -- one of the three rules holds of the last kept pair and the next one
  by_rule : {A : Type 0} (last p : (ℤ × ℤ) × V) → (clashes same last p ≡ true → A) → (clashes same last p ≡ false → joins same last p ≡ true → A)
      → (clashes same last p ≡ false → joins same last p ≡ false → A) → A
  by_rule last p clash join apart = by_cases (clashes same last p) clash (λ c. by_cases (joins same last p) (join c) (apart c))

  grown_end : (last p : (ℤ × ℤ) × V) → (last.0.1 ≤ℤ (grown last p).0.1) × (p.0.1 ≤ℤ (grown last p).0.1)
  grown_end last p = (grind (arith, ints), grind (arith, ints))

  grown_within : (last p : (ℤ × ℤ) × V) → last.0.1 ≤ℤ hi → p.0.1 ≤ℤ hi → (grown last p).0.1 ≤ℤ hi
  grown_within last p u v = grind (arith, ints)

  -- ---- canonical

  stops_before : (j k : (ℤ × ℤ) × V) (rest : List ((ℤ × ℤ) × V)) → (k.0.0 ≡ j.0.1 +ℤ pos 1 → same j.1 k.1 ≡ false) → StopsBefore same j (kept_from same k rest).kept
  stops_before j k [] d = d
  stops_before j k (p ∷ rest) d = by_rule k p
      (λ c. rw c (stops_before j k rest d))
      (λ c i. rw (c, i) (stops_before j (grown k p) rest d))
      (λ c i. rw (c, i) d)

  canonical_from : (lo : ℤ) (last : (ℤ × ℤ) × V) (rest : List ((ℤ × ℤ) × V)) → lo ≤ℤ last.0.0 → last.0.0 ≤ℤ last.0.1 → last.0.1 ≤ℤ hi
      → BeginFrom last.0.0 rest → IsCanonicalMap same lo hi (kept_from same last rest).kept
  canonical_from lo last [] u v w b = (u, v, w, tt, tt)
  canonical_from lo last (p ∷ rest) u v w b =
      let after : BeginFrom last.0.0 rest = begin-lower p.0.0 last.0.0 rest b.0 b.3 in
      by_rule last p
      (λ c. rw c (canonical_from lo last rest u v w after))
      (λ c i. let end = grown_end last p in rw (c, i) (canonical_from lo (grown last p) rest u (omega (arith, ints)) (grown_within last p w b.2) after))
      (λ c i.
      let tells = apart_tells last.0 p.0 (same last.1 p.1) b.0 b.1 c i in
      rw (c, i) (u, v, w, stops_before last p rest tells.1, canonical_from (last.0.1 +ℤ pos 1) p rest tells.0 b.1 b.2 b.3))

  pub kept_is_canonical : (lo : ℤ) (list : List ((ℤ × ℤ) × V)) → BeginFrom lo list → IsCanonicalMap same lo hi (kept_and_discarded same list).kept
  kept_is_canonical lo [] b = tt
  kept_is_canonical lo (p ∷ rest) b = canonical_from lo p rest b.0 b.1 b.2 b.3

  -- ---- what is kept accounts for all

  -- the pairs that aren't discarded, of those that follow the last kept one
  abbrev taken_from : (ℤ × ℤ) × V → List ((ℤ × ℤ) × V) → List ((ℤ × ℤ) × V)
  taken_from last [] = []
  taken_from last (p ∷ rest) =
      if clashes same last p then taken_from last rest else if joins same last p then p ∷ taken_from (grown last p) rest else p ∷ taken_from p rest

  taken_or_discarded : (last : (ℤ × ℤ) × V) (rest : List ((ℤ × ℤ) × V)) → IsPermutation rest (taken_from last rest ++ (kept_from same last rest).discarded)
  taken_or_discarded last [] = IsPermutation-refl []
  taken_or_discarded last (p ∷ rest) = by_rule last p
      (λ c.
      let taken = taken_from last rest in
      let discarded = (kept_from same last rest).discarded in
      rw c (IsPermutation-trans (p ∷ rest) (p ∷ (taken ++ discarded)) (taken ++ p ∷ discarded)
      (IsPermutation-cons p rest (taken ++ discarded) (taken_or_discarded last rest))
      (IsPermutation-sym (taken ++ p ∷ discarded) (p ∷ (taken ++ discarded)) (IsPermutation-middle taken p discarded))))
      (λ c i. rw (c, i) (IsPermutation-cons p rest (taken_from (grown last p) rest ++ (kept_from same (grown last p) rest).discarded) (taken_or_discarded (grown last p) rest)))
      (λ c i. rw (c, i) (IsPermutation-cons p rest (taken_from p rest ++ (kept_from same p rest).discarded) (taken_or_discarded p rest)))

  -- the last kept pair has its value throughout its range, however it grows
  last_value : (last : (ℤ × ℤ) × V) (rest : List ((ℤ × ℤ) × V)) (x : ℤ) → lies_in last.0 x ≡ true → value_at (kept_from same last rest).kept x ≡ Some last.1
  last_value last [] x h = rw h refl
  last_value last (p ∷ rest) x h = by_rule last p
      (λ c. rw c (last_value last rest x h))
      (λ c i.
      let w = lies_within last.0 x h in
      let end = grown_end last p in
      rw (c, i) (last_value (grown last p) rest x (inside (grown last p).0 x w.0 (omega (arith, ints)))))
      (λ c i. rw (c, i, h) refl)

  -- facts of pairs that begin from lo on, and so behind the end of a pair before them
  over_first : (first : (ℤ × ℤ) × V) (lo : ℤ) (list kept : List ((ℤ × ℤ) × V)) → first.0.1 <ℤ lo → BeginFrom lo list
      → AllByRecursion (HasItsValue same kept) list → AllByRecursion (HasItsValue same (first ∷ kept)) list
  over_first first lo [] kept h b a = tt
  over_first first lo (p ∷ rest) kept h b a = (
    (λ x k.
        let w = lies_within p.0 x k in
        rw (value_in_rest first kept x (behind first.0 x (omega (arith, ints)))) (a.0 x k)),
    over_first first p.0.0 rest kept (omega (arith, ints)) b.3 a.1,
  )

  others_over_first : (first : (ℤ × ℤ) × V) (lo : ℤ) (list kept : List ((ℤ × ℤ) × V)) → first.0.1 <ℤ lo → BeginFrom lo list
      → AllByRecursion (HasAnother same kept) list → AllByRecursion (HasAnother same (first ∷ kept)) list
  others_over_first first lo [] kept h b a = tt
  others_over_first first lo (p ∷ rest) kept h b a = (
    (let w = lies_within p.0 a.0.0 a.0.2 in
        (a.0.0, a.0.1, a.0.2, value_in_rest first kept a.0.0 (behind first.0 a.0.0 (omega (arith, ints))) ∙ a.0.3, a.0.4)),
    others_over_first first p.0.0 rest kept (omega (arith, ints)) b.3 a.1,
  )

  begin-taken : (lo : ℤ) (last : (ℤ × ℤ) × V) (rest : List ((ℤ × ℤ) × V)) → BeginFrom lo rest → BeginFrom lo (taken_from last rest)
  begin-taken lo last [] b = tt
  begin-taken lo last (p ∷ rest) b = by_rule last p
      (λ c. rw c (begin-lower p.0.0 lo (taken_from last rest) b.0 (begin-taken p.0.0 last rest b.3)))
      (λ c i. rw (c, i) (b.0, b.1, b.2, begin-taken p.0.0 (grown last p) rest b.3))
      (λ c i. rw (c, i) (b.0, b.1, b.2, begin-taken p.0.0 p rest b.3))

  begin-discarded : (lo : ℤ) (last : (ℤ × ℤ) × V) (rest : List ((ℤ × ℤ) × V)) → BeginFrom lo rest → BeginFrom lo (kept_from same last rest).discarded
  begin-discarded lo last [] b = tt
  begin-discarded lo last (p ∷ rest) b = by_rule last p
      (λ c. rw c (b.0, b.1, b.2, begin-discarded p.0.0 last rest b.3))
      (λ c i. rw (c, i) (begin-lower p.0.0 lo (kept_from same (grown last p) rest).discarded b.0 (begin-discarded p.0.0 (grown last p) rest b.3)))
      (λ c i. rw (c, i) (begin-lower p.0.0 lo (kept_from same p rest).discarded b.0 (begin-discarded p.0.0 p rest b.3)))

  others_from : (last : (ℤ × ℤ) × V) (rest : List ((ℤ × ℤ) × V)) → last.0.0 ≤ℤ last.0.1 → BeginFrom last.0.0 rest
      → AllByRecursion (HasAnother same (kept_from same last rest).kept) (kept_from same last rest).discarded
  others_from last [] u b = tt
  others_from last (p ∷ rest) u b =
      let after : BeginFrom last.0.0 rest = begin-lower p.0.0 last.0.0 rest b.0 b.3 in
      by_rule last p
      (λ c.
      let tells = clash_tells last.0 p.0 (same last.1 p.1) c in
      rw c (
        (p.0.0, last.1, inside p.0 p.0.0 (omega (arith, ints)) b.1, last_value last rest p.0.0 (inside last.0 p.0.0 b.0 tells.0), tells.1),
        others_from last rest u after,
      ))
      (λ c i. let end = grown_end last p in rw (c, i) (others_from (grown last p) rest (omega (arith, ints)) after))
      (λ c i.
      let tells = apart_tells last.0 p.0 (same last.1 p.1) b.0 b.1 c i in
      rw (c, i) (others_over_first last p.0.0 (kept_from same p rest).discarded (kept_from same p rest).kept (omega (arith, ints))
      (begin-discarded p.0.0 p rest b.3) (others_from p rest b.1 b.3)))

  -- where neither the last pair nor one taken behind it lies, there is no value
  joined_outside : (r s : ℤ × ℤ) (x : ℤ) → s.0 ≤ℤ (r.1 +ℤ pos 1) → r.0 ≤ℤ s.0 → lies_in r x ≡ false → lies_in s x ≡ false → lies_in (r.0, int_max r.1 s.1) x ≡ false
  joined_outside r s x h k u v = grind (arith, ints)

  outside_first : (p : (ℤ × ℤ) × V) (list : List ((ℤ × ℤ) × V)) (x : ℤ) → value_at (p ∷ list) x ≡ None → (lies_in p.0 x ≡ false) × (value_at list x ≡ None)
  outside_first p list x h = by_cases (lies_in p.0 x)
      (λ e. let some : Some p.1 ≡ None = rw e at h in absurd (cc))
      (λ e. (e, rw e at h))

  nothing_else_from : (last : (ℤ × ℤ) × V) (rest : List ((ℤ × ℤ) × V)) (x : ℤ) → BeginFrom last.0.0 rest
      → value_at (last ∷ taken_from last rest) x ≡ None → value_at (kept_from same last rest).kept x ≡ None
  nothing_else_from last [] x b h = h
  nothing_else_from last (p ∷ rest) x b h =
      let after : BeginFrom last.0.0 rest = begin-lower p.0.0 last.0.0 rest b.0 b.3 in
      let out = outside_first last (taken_from last (p ∷ rest)) x h in
      by_rule last p
      (λ c. rw c (nothing_else_from last rest x after (rw c at h)))
      (λ c i.
      let tells = join_tells last.0 p.0 (same last.1 p.1) i in
      let behind_last : value_at (p ∷ taken_from (grown last p) rest) x ≡ None = rw (c, i) at out.1 in
      let next = outside_first p (taken_from (grown last p) rest) x behind_last in
      let not_in : lies_in (grown last p).0 x ≡ false = joined_outside last.0 p.0 x tells.0 b.0 out.0 next.0 in
      rw (c, i) (nothing_else_from (grown last p) rest x after (value_in_rest (grown last p) (taken_from (grown last p) rest) x not_in ∙ next.1)))
      (λ c i.
      let behind_last : value_at (p ∷ taken_from p rest) x ≡ None = rw (c, i) at out.1 in
      rw (c, i) (value_in_rest last (kept_from same p rest).kept x out.0 ∙ nothing_else_from p rest x b.3 behind_last))

  module _ (reflexive : (v : V) → same v v ≡ true) where
    values_from : (last : (ℤ × ℤ) × V) (rest : List ((ℤ × ℤ) × V)) → BeginFrom last.0.0 rest
        → AllByRecursion (HasItsValue same (kept_from same last rest).kept) (taken_from last rest)
    values_from last [] b = tt
    values_from last (p ∷ rest) b =
        let after : BeginFrom last.0.0 rest = begin-lower p.0.0 last.0.0 rest b.0 b.3 in
        by_rule last p
        (λ c. rw c (values_from last rest after))
        (λ c i.
        let tells = join_tells last.0 p.0 (same last.1 p.1) i in
        let end = grown_end last p in
        rw (c, i) (
          (λ x h.
              let w = lies_within p.0 x h in
              rw (last_value (grown last p) rest x (inside (grown last p).0 x (omega (arith, ints)) (omega (arith, ints)))) tells.1),
          values_from (grown last p) rest after,
        ))
        (λ c i.
        let tells = apart_tells last.0 p.0 (same last.1 p.1) b.0 b.1 c i in
        rw (c, i) (over_first last p.0.0 (p ∷ taken_from p rest) (kept_from same p rest).kept (omega (arith, ints))
        (omega (arith, ints), b.1, b.2, begin-taken p.0.0 p rest b.3)
        ((λ x h. rw (last_value p rest x h) (reflexive p.1)), values_from p rest b.3)))

    pub account : (lo : ℤ) (given list : List ((ℤ × ℤ) × V)) → IsPermutation given list → BeginFrom lo list
        → IsAccount same given (kept_and_discarded same list).kept (kept_and_discarded same list).discarded
    account lo given [] e b = record { taken = []; all = e; values = tt; nothing_else = λ x h. refl; others = tt }
    account lo given (p ∷ rest) e b = record {
      taken = p ∷ taken_from p rest;
      all = IsPermutation-trans given (p ∷ rest) (p ∷ (taken_from p rest ++ (kept_from same p rest).discarded)) e
          (IsPermutation-cons p rest (taken_from p rest ++ (kept_from same p rest).discarded) (taken_or_discarded p rest));
      values = ((λ x h. rw (last_value p rest x h) (reflexive p.1)), values_from p rest b.3);
      nothing_else = λ x h. nothing_else_from p rest x b.3 h;
      others = others_from p rest b.1 b.3;
    }

  -- ---- pairs that don't overlap

  -- the ranges ascend from lo without overlap, and none is empty; those that touch may have the same value
  abbrev pub AscendFrom : ℤ → List ((ℤ × ℤ) × V) → Type 0
  AscendFrom lo [] = Unit {0}
  AscendFrom lo (p ∷ rest) = (lo ≤ℤ p.0.0) × (p.0.0 ≤ℤ p.0.1) × (p.0.1 ≤ℤ hi) × AscendFrom (p.0.1 +ℤ pos 1) rest

  none_discarded_from : (last : (ℤ × ℤ) × V) (rest : List ((ℤ × ℤ) × V)) → AscendFrom (last.0.1 +ℤ pos 1) rest → (kept_from same last rest).discarded ≡ []
  none_discarded_from last [] a = refl
  none_discarded_from last (p ∷ rest) a =
      let apart = no_clash last.0 p.0 (same last.1 p.1) a.0 in
      by_cases (joins same last p)
      (λ j. let end : (grown last p).0.1 ≡ p.0.1 = further last.0.1 p.0 a.0 a.1 in rw (apart, j) (none_discarded_from (grown last p) rest (rw end a.3)))
      (λ j. rw (apart, j) (none_discarded_from p rest a.3))
    where
      further : (end : ℤ) (r : ℤ × ℤ) → (end +ℤ pos 1) ≤ℤ r.0 → r.0 ≤ℤ r.1 → int_max end r.1 ≡ r.1
      further end r h k = grind (arith, ints)

  none_below_ascending : (p : (ℤ × ℤ) × V) (lo : ℤ) (list : List ((ℤ × ℤ) × V)) → p.0.0 <ℤ lo → AscendFrom lo list → NoneBelow has_less_range p list
  none_below_ascending p lo [] h a = tt
  none_below_ascending p lo (q ∷ rest) h a =
      (grind (arith, ints), none_below_ascending p (q.0.1 +ℤ pos 1) rest (omega (arith, ints)) a.3)

  in_order_ascending : (lo : ℤ) (list : List ((ℤ × ℤ) × V)) → AscendFrom lo list → InOrder has_less_range list
  in_order_ascending lo [] a = tt
  in_order_ascending lo (p ∷ rest) a =
      (none_below_ascending p (p.0.1 +ℤ pos 1) rest (omega (arith, ints)) a.3, in_order_ascending (p.0.1 +ℤ pos 1) rest a.3)

  -- of such pairs none is discarded
  pub none_discarded : (lo : ℤ) (list : List ((ℤ × ℤ) × V)) → AscendFrom lo list → (kept_and_discarded same (placed list)).discarded ≡ []
  none_discarded lo list a = rw (in_order_is_placed has_less_range ranges_rank list (in_order_ascending lo list a)) (none list a)
    where
      none : (list : List ((ℤ × ℤ) × V)) → AscendFrom lo list → (kept_and_discarded same list).discarded ≡ []
      none [] a = refl
      none (p ∷ rest) a = none_discarded_from p rest a.3

  -- ---- what is canonical is its own

  ascends : (lo : ℤ) (list : List ((ℤ × ℤ) × V)) → IsCanonicalMap same lo hi list → AscendFrom lo list
  ascends lo [] c = tt
  ascends lo (p ∷ rest) c = (c.0, c.1, c.2, ascends (p.0.1 +ℤ pos 1) rest c.4)

  own_from : (lo : ℤ) (last : (ℤ × ℤ) × V) (rest : List ((ℤ × ℤ) × V)) → IsCanonicalMap same lo hi (last ∷ rest)
      → kept_from same last rest ≡ record { kept = last ∷ rest; discarded = [] }
  own_from lo last [] c = refl
  own_from lo last (p ∷ rest) c =
      rw (no_clash last.0 p.0 (same last.1 p.1) c.4.0, no_join last.0 p.0 (same last.1 p.1) c.4.0 c.3, own_from (last.0.1 +ℤ pos 1) p rest c.4)

  -- of a canonical list all is kept and nothing discarded
  pub canonical_is_kept : (lo : ℤ) (list : List ((ℤ × ℤ) × V)) → IsCanonicalMap same lo hi list
      → kept_and_discarded same (placed list) ≡ record { kept = list; discarded = [] }
  canonical_is_kept lo list c = rw (in_order_is_placed has_less_range ranges_rank list (in_order_ascending lo list (ascends lo list c))) (own list c)
    where
      own : (list : List ((ℤ × ℤ) × V)) → IsCanonicalMap same lo hi list → kept_and_discarded same list ≡ record { kept = list; discarded = [] }
      own [] c = refl
      own (p ∷ rest) c = own_from lo p rest c

  -- ---- together

  -- the range lies between lo and hi and isn't empty
  abbrev pub IsWithin : ℤ → (ℤ × ℤ) × V → Type 0
  IsWithin lo p = (lo ≤ℤ p.0.0) × (p.0.0 ≤ℤ p.0.1) × (p.0.1 ≤ℤ hi)

  begin_in_order : (lo : ℤ) (list : List ((ℤ × ℤ) × V)) → AllByRecursion (IsWithin lo) list → InOrder has_less_range list → BeginFrom lo list
  begin_in_order lo [] a u = tt
  begin_in_order lo (p ∷ rest) a u = (a.0.0, a.0.1, a.0.2, begin_in_order p.0.0 rest (later rest a.1 u.0) u.1)
    where
      later : (rest : List ((ℤ × ℤ) × V)) → AllByRecursion (IsWithin lo) rest → NoneBelow has_less_range p rest
          → AllByRecursion (IsWithin p.0.0) rest
      later [] a n = tt
      later (q ∷ rest) a n = ((begins_no_sooner q n.0, a.0.1, a.0.2), later rest a.1 n.1)
        where
          begins_no_sooner : (q : (ℤ × ℤ) × V) → has_less_range q p ≡ false → p.0.0 ≤ℤ q.0.0
          begins_no_sooner q e = grind (arith, ints)

  -- pairs in the order of their ranges, walked by the three rules: what is kept is canonical, and it and what is discarded are those
  -- of the given pairs
  pub divided : ((v : V) → same v v ≡ true) → (lo : ℤ) (given list kept discarded : List ((ℤ × ℤ) × V)) → IsPermutation given list → list ≡ placed given
      → AllByRecursion (IsWithin lo) list → kept_and_discarded same list ≡ record { kept = kept; discarded = discarded }
      → IsCanonicalMap same lo hi kept × IsDivided same given kept discarded
  divided reflexive lo given list kept discarded moved sorted within rules =
      let begin : BeginFrom lo list = begin_in_order lo list within (rw sorted (in_order-placed has_less_range ranges_rank [] given tt)) in
      let kept_is : (kept_and_discarded same list).kept ≡ kept = ap (λ split. split.kept) rules in
      let discarded_is : (kept_and_discarded same list).discarded ≡ discarded = ap (λ split. split.discarded) rules in (
        rw kept_is at (kept_is_canonical lo list begin),
        record { rules = rw (← sorted) rules; account = rw (kept_is, discarded_is) at (account reflexive lo given list moved begin) },
      )
