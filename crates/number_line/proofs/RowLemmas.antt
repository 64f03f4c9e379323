-- Canonical lists whose values are read through a function, the places of their ranges, and a list with a value at every number as the
-- segments of its labelling.
use Rattle.std.proofs.Common.{◌≡◌, ℕ, suc, ◌+◌, List, [], ◌∷◌, map, refl, arith, sym, ◌∙◌, ap, ◌++◌, reverse}
use Rattle.std.specs.Prelude.{ℤ, pos, ◌+ℤ◌, ◌≤ℤ◌, ◌<ℤ◌, Bool, true, false, if◌then◌else◌, Option, Some, None, nat_eq}
use Rattle.std.specs.Option.{option_map, option_eq, option_or}
use Rattle.std.proofs.lemmas.Bool.Decides.{Decides-eqb}
use Rattle.std.proofs.lemmas.Int.{ints, by_lt_z}
use Rattle.std.proofs.lemmas.List.{reverse-append}
use Rattle.number_line.specs.Ranges.{lies_in}
use Rattle.number_line.specs.Segments.{segments, IsCut}
use Rattle.number_line.specs.Valued.{value_at, StopsBefore, IsCanonicalMap, HasValues}
use Rattle.number_line.specs.Rows.{revalued, segment_of, place_at, value_of_place, with_places}
use Rattle.number_line.proofs.SegmentLemmas.{cut_is_segments}
use Rattle.number_line.proofs.ValuedLemmas.{inside, behind, lies_within, value_in_first, value_in_rest, none_below, none_before_first}

module _ {V W : Type 0} (g : V → W) where
  -- the value at x of a list whose values are read through g
  pub value_revalued : (list : List ((ℤ × ℤ) × V)) (x : ℤ) → value_at (revalued g list) x ≡ option_map g (value_at list x)
  value_revalued [] x = refl
  value_revalued (p ∷ rest) x = go (value_revalued rest x) (lies_in p.0 x)
    where
      go : value_at (revalued g rest) x ≡ option_map g (value_at rest x) → (b : Bool) → (if b then Some (g p.1) else value_at (revalued g rest) x) ≡ option_map g (if b then Some p.1 else value_at rest x)
      go e true = refl
      go e false = e

  module _ (same : V → V → Bool) (same' : W → W → Bool) (hi : ℤ) where
    -- g keeps apart what differs at neighbouring numbers
    abbrev pub KeepsApart : ℤ → List ((ℤ × ℤ) × V) → Type 0
    KeepsApart lo list = (x : ℤ) (a b : V) → lo ≤ℤ x → x <ℤ hi → value_at list x ≡ Some a → value_at list (x +ℤ pos 1) ≡ Some b → same a b ≡ false → same' (g a) (g b) ≡ false

    still_stops : (p : (ℤ × ℤ) × V) (rest : List ((ℤ × ℤ) × V)) (lo : ℤ) → IsCanonicalMap same lo hi (p ∷ rest) → KeepsApart lo (p ∷ rest)
        → StopsBefore same' (p.0, g p.1) (revalued g rest)
    still_stops p [] lo c k = tt
    still_stops p (q ∷ rest) lo c k = λ touches.
        let here = value_in_first p (q ∷ rest) p.0.1 (inside p.0 p.0.1 c.1 (omega (arith, ints))) in
        let past = value_in_rest p (q ∷ rest) (p.0.1 +ℤ pos 1) (behind p.0 (p.0.1 +ℤ pos 1) (omega (arith, ints))) in
        let there = value_in_first q rest (p.0.1 +ℤ pos 1) (inside q.0 (p.0.1 +ℤ pos 1) (omega (arith, ints)) (omega (arith, ints))) in
        k p.0.1 p.1 q.1 (omega (arith, ints)) (omega (arith, ints)) here (past ∙ there) (c.3 touches)

    still_apart : (p : (ℤ × ℤ) × V) (rest : List ((ℤ × ℤ) × V)) (lo : ℤ) → IsCanonicalMap same lo hi (p ∷ rest) → KeepsApart lo (p ∷ rest) → KeepsApart (p.0.1 +ℤ pos 1) rest
    still_apart p rest lo c k = λ x a b u v e f d.
        k x a b (omega (arith, ints)) v
        (value_in_rest p rest x (behind p.0 x (omega (arith, ints))) ∙ e)
        (value_in_rest p rest (x +ℤ pos 1) (behind p.0 (x +ℤ pos 1) (omega (arith, ints))) ∙ f) d

    -- then the list stays canonical
    pub revalued_canonical : (lo : ℤ) (list : List ((ℤ × ℤ) × V)) → IsCanonicalMap same lo hi list → KeepsApart lo list → IsCanonicalMap same' lo hi (revalued g list)
    revalued_canonical lo [] c k = tt
    revalued_canonical lo (p ∷ rest) c k = (c.0, c.1, c.2, still_stops p rest lo c k, revalued_canonical (p.0.1 +ℤ pos 1) rest c.4 (still_apart p rest lo c k))

-- ---- a value at every number

module _ {L : Type 0} (same : L → L → Bool) (decides : (a b : L) → same a b ≡ true → a ≡ b) (itself : (a : L) → same a a ≡ true) (f : ℤ → L) (hi : ℤ) where
  abbrev pub IsTotal : ℤ → List ((ℤ × ℤ) × L) → Type 0
  IsTotal lo list = (x : ℤ) → lo ≤ℤ x → x ≤ℤ hi → value_at list x ≡ Some (f x)

  total : (lo : ℤ) (list : List ((ℤ × ℤ) × L)) → HasValues same (λ x. Some (f x)) lo hi list → IsTotal lo list
  total lo list h = λ x u v. go (value_at list x) (h x u v)
    where
      go : {x : ℤ} (r : Option L) → option_eq same r (Some (f x)) ≡ true → r ≡ Some (f x)
      go None e = cc
      go (Some a) e = ap Some (decides a _ e)

  starts_here : (lo : ℤ) (p : (ℤ × ℤ) × L) (rest : List ((ℤ × ℤ) × L)) → IsCanonicalMap same lo hi (p ∷ rest) → IsTotal lo (p ∷ rest) → p.0.0 ≡ lo
  starts_here lo p rest c t = by_lt_z lo p.0.0
      (λ k. let none = none_before_first same lo hi p rest lo c k in let some = t lo (omega (arith, ints)) (omega (arith, ints)) in absurd (cc))
      (λ k. omega (arith, ints))

  label_here : (lo : ℤ) (p : (ℤ × ℤ) × L) (rest : List ((ℤ × ℤ) × L)) → IsCanonicalMap same lo hi (p ∷ rest) → IsTotal lo (p ∷ rest)
      → (x : ℤ) → p.0.0 ≤ℤ x → x ≤ℤ p.0.1 → p.1 ≡ f x
  label_here lo p rest c t x u v =
      let there = value_in_first p rest x (inside p.0 x u v) in
      let wanted = t x (omega (arith, ints)) (omega (arith, ints)) in
      some_is (sym there ∙ wanted)
    where
      some_is : {a b : L} → Some a ≡ Some b → a ≡ b
      some_is e = cc

  total_rest : (lo : ℤ) (p : (ℤ × ℤ) × L) (rest : List ((ℤ × ℤ) × L)) → IsCanonicalMap same lo hi (p ∷ rest) → IsTotal lo (p ∷ rest) → IsTotal (p.0.1 +ℤ pos 1) rest
  total_rest lo p rest c t = λ x u v. sym (value_in_rest p rest x (behind p.0 x (omega (arith, ints)))) ∙ t x (omega (arith, ints)) v

  turns : (lo : ℤ) (p : (ℤ × ℤ) × L) (rest : List ((ℤ × ℤ) × L)) → IsCanonicalMap same lo hi (p ∷ rest) → IsTotal lo (p ∷ rest) → p.0.1 <ℤ hi → same (f p.0.1) (f (p.0.1 +ℤ pos 1)) ≡ false
  turns lo p [] c t h = let none = total_rest lo p [] c t (p.0.1 +ℤ pos 1) (omega (arith, ints)) (omega (arith, ints)) in absurd (cc)
  turns lo p (q ∷ rest) c t h =
      let t' = total_rest lo p (q ∷ rest) c t in
      let start = starts_here (p.0.1 +ℤ pos 1) q rest c.4 t' in
      let a = label_here lo p (q ∷ rest) c t p.0.1 c.1 (omega (arith, ints)) in
      let b = label_here (p.0.1 +ℤ pos 1) q rest c.4 t' (p.0.1 +ℤ pos 1) (omega (arith, ints)) (omega (arith, ints)) in
      rw (← a, ← b) (c.3 start)

  cut_of : (lo : ℤ) (list : List ((ℤ × ℤ) × L)) → lo ≤ℤ (hi +ℤ pos 1) → IsCanonicalMap same lo hi list → IsTotal lo list → IsCut same f hi lo (map segment_of list)
  cut_of lo [] h c t = by_lt_z hi lo (λ k. omega (arith, ints)) (λ k. let none = t lo (omega (arith, ints)) k in absurd (cc))
  cut_of lo (p ∷ rest) h c t =
      let start = starts_here lo p rest c t in (
        start,
        omega (arith, ints),
        c.2,
        rw start at (label_here lo p rest c t p.0.0 (omega (arith, ints)) c.1),
        (λ x u v. rw (← label_here lo p rest c t x (omega (arith, ints)) (omega (arith, ints)), ← label_here lo p rest c t (x +ℤ pos 1) (omega (arith, ints)) (omega (arith, ints))) (itself p.1)),
        turns lo p rest c t,
        cut_of (p.0.1 +ℤ pos 1) rest (omega (arith, ints)) c.4 (total_rest lo p rest c t),
      )

  -- a canonical list with the label of each number is the segments
  pub total_is_segments : (lo : ℤ) (n : ℕ) (list : List ((ℤ × ℤ) × L)) → hi ≡ lo +ℤ pos n → IsCanonicalMap same lo hi list → HasValues same (λ x. Some (f x)) lo hi list
      → map segment_of list ≡ segments same f lo n
  total_is_segments lo n list e c h = cut_is_segments same f hi lo n (map segment_of list) e (cut_of lo list (omega (arith, ints)) c (total lo list h))

-- ---- places of ranges

module _ {V : Type 0} where
  -- the value at x stands at the place of x
  pub value_is_placed : (list : List ((ℤ × ℤ) × V)) (x : ℤ) → value_of_place list (place_at list x) ≡ value_at list x
  value_is_placed [] x = refl
  value_is_placed (p ∷ rest) x = go (value_is_placed rest x) (lies_in p.0 x)
    where
      later : (r : Option ℕ) → value_of_place (p ∷ rest) (option_map suc r) ≡ value_of_place rest r
      later None = refl
      later (Some i) = refl

      go : value_of_place rest (place_at rest x) ≡ value_at rest x → (b : Bool) → value_of_place (p ∷ rest) (if b then Some 0 else option_map suc (place_at rest x)) ≡ (if b then Some p.1 else value_at rest x)
      go e true = refl
      go e false = later (place_at rest x) ∙ e

  -- the value at x among places is the place of x
  pub place_is_valued : (k : ℕ) (list : List ((ℤ × ℤ) × V)) (x : ℤ) → value_at (with_places k list) x ≡ option_map (λ i. i + k) (place_at list x)
  place_is_valued k [] x = refl
  place_is_valued k (p ∷ rest) x = go (place_is_valued (suc k) rest x) (lies_in p.0 x)
    where
      shifted : (r : Option ℕ) → option_map (λ i. i + suc k) r ≡ option_map (λ i. i + k) (option_map suc r)
      shifted None = refl
      shifted (Some i) = let e : i + suc k ≡ suc i + k = omega arith in ap Some e

      go : value_at (with_places (suc k) rest) x ≡ option_map (λ i. i + suc k) (place_at rest x)
          → (b : Bool) → (if b then Some k else value_at (with_places (suc k) rest) x) ≡ option_map (λ i. i + k) (if b then Some 0 else option_map suc (place_at rest x))
      go e true = let zero_more : k ≡ 0 + k = omega arith in ap Some zero_more
      go e false = e ∙ shifted (place_at rest x)

  -- without a value there is no place
  pub nothing_is_placed : (list : List ((ℤ × ℤ) × V)) (x : ℤ) → value_at list x ≡ None → place_at list x ≡ None
  nothing_is_placed [] x e = refl
  nothing_is_placed (p ∷ rest) x e = go (nothing_is_placed rest x) (lies_in p.0 x) e
    where
      go : (value_at rest x ≡ None → place_at rest x ≡ None) → (b : Bool) → (if b then Some p.1 else value_at rest x) ≡ None
          → (if b then Some 0 else option_map suc (place_at rest x)) ≡ None
      go ih true h = cc
      go ih false h = ap (option_map suc) (ih h)

  value_joined : (a b : List ((ℤ × ℤ) × V)) (x : ℤ) → value_at (a ++ b) x ≡ option_or (value_at a x) (value_at b x)
  value_joined [] b x = refl
  value_joined (p ∷ a) b x = go (value_joined a b x) (lies_in p.0 x)
    where
      go : value_at (a ++ b) x ≡ option_or (value_at a x) (value_at b x) → (t : Bool)
          → (if t then Some p.1 else value_at (a ++ b) x) ≡ option_or (if t then Some p.1 else value_at a x) (value_at b x)
      go e true = refl
      go e false = e

  module _ (same : V → V → Bool) (hi : ℤ) where
    -- of ranges that don't overlap the last one that holds x is the first
    pub value_reversed : (lo : ℤ) (list : List ((ℤ × ℤ) × V)) (x : ℤ) → IsCanonicalMap same lo hi list → value_at (reverse list) x ≡ value_at list x
    value_reversed lo [] x c = refl
    value_reversed lo (p ∷ rest) x c =
        let turned : reverse (p ∷ rest) ≡ reverse rest ++ p ∷ [] = reverse-append (p ∷ []) rest in
        let later : value_at (reverse rest) x ≡ value_at rest x = value_reversed (p.0.1 +ℤ pos 1) rest x c.4 in
        rw turned (value_joined (reverse rest) (p ∷ []) x ∙ (ap (λ r. option_or r (value_at (p ∷ []) x)) later ∙ go (lies_in p.0 x) refl))
      where
        alone : (r : Option V) → option_or r None ≡ r
        alone None = refl
        alone (Some v) = refl

        go : (b : Bool) → lies_in p.0 x ≡ b → option_or (value_at rest x) (if b then Some p.1 else None) ≡ (if b then Some p.1 else value_at rest x)
        go true h =
            let in_p = lies_within p.0 x h in
            let none : value_at rest x ≡ None = none_below same (p.0.1 +ℤ pos 1) hi rest x c.4 (omega (arith, ints, in_p.1)) in
            rw none refl
        go false h = alone (value_at rest x)

    -- places differ, so ranges with their places are canonical
    pub places_canonical : (k : ℕ) (lo : ℤ) (list : List ((ℤ × ℤ) × V)) → IsCanonicalMap same lo hi list → IsCanonicalMap nat_eq lo hi (with_places k list)
    places_canonical k lo [] c = tt
    places_canonical k lo (p ∷ rest) c = (c.0, c.1, c.2, differ rest, places_canonical (suc k) (p.0.1 +ℤ pos 1) rest c.4)
      where
        other : (b : Bool) → nat_eq k (suc k) ≡ b → b ≡ false
        other true e = let same_number : k ≡ suc k = (Decides-eqb k (suc k)).0 e in absurd (omega arith)
        other false e = refl

        differ : (rest : List ((ℤ × ℤ) × V)) → StopsBefore nat_eq (p.0, k) (with_places (suc k) rest)
        differ [] = tt
        differ (q ∷ rest) = λ touches. other (nat_eq k (suc k)) refl

    -- neighbouring numbers with the same value lie in one range
    pub same_value_same_place : (lo : ℤ) (list : List ((ℤ × ℤ) × V)) (x : ℤ) (a b : V) → IsCanonicalMap same lo hi list
        → value_at list x ≡ Some a → value_at list (x +ℤ pos 1) ≡ Some b → same a b ≡ true → place_at list x ≡ place_at list (x +ℤ pos 1)
    same_value_same_place lo [] x a b c e f d = cc
    same_value_same_place lo (p ∷ rest) x a b c e f d =
        go (same_value_same_place (p.0.1 +ℤ pos 1) rest x a b c.4) (lies_in p.0 x) (lies_in p.0 (x +ℤ pos 1)) refl refl
      where
        later : (q : Option ℕ) (r : Option ℕ) → q ≡ r → option_map suc q ≡ option_map suc r
        later q r h = ap (option_map suc) h

        -- the last number of p's range and the first of the next, whose values differ
        leaves : (rest : List ((ℤ × ℤ) × V)) → StopsBefore same p rest → IsCanonicalMap same (p.0.1 +ℤ pos 1) hi rest → value_at rest (p.0.1 +ℤ pos 1) ≡ Some b → same p.1 b ≡ true → ⊥
        leaves [] s n g h = cc
        leaves (q ∷ rest) s n g h = by_lt_z (p.0.1 +ℤ pos 1) q.0.0
            (λ k. let none = none_before_first same (p.0.1 +ℤ pos 1) hi q rest (p.0.1 +ℤ pos 1) n k in cc)
            (λ k.
            let there = value_in_first q rest (p.0.1 +ℤ pos 1) (inside q.0 (p.0.1 +ℤ pos 1) k (omega (arith, ints))) in
            let differ : same p.1 q.1 ≡ false = s (omega (arith, ints)) in
            let one : Some q.1 ≡ Some b = sym there ∙ g in
            let q_is_b : q.1 ≡ b = cc in
            cc)

        go : (value_at rest x ≡ Some a → value_at rest (x +ℤ pos 1) ≡ Some b → same a b ≡ true → place_at rest x ≡ place_at rest (x +ℤ pos 1))
            → (here next : Bool) → lies_in p.0 x ≡ here → lies_in p.0 (x +ℤ pos 1) ≡ next
            → (if here then Some 0 else option_map suc (place_at rest x)) ≡ (if next then Some 0 else option_map suc (place_at rest (x +ℤ pos 1)))
        go ih true true h k = refl
        go ih true false h k =
            let in_p = lies_within p.0 x h in
            let last : x ≡ p.0.1 = by_lt_z p.0.1 x (λ m. absurd (omega (arith, ints, in_p.1)))
            (λ m. by_lt_z x p.0.1
            (λ less. let wrong : lies_in p.0 (x +ℤ pos 1) ≡ true = inside p.0 (x +ℤ pos 1) (omega (arith, ints, in_p.0)) (omega (arith, ints)) in absurd (cc))
            (λ more. omega (arith, ints))) in
            let first : Some p.1 ≡ Some a = sym (value_in_first p rest x h) ∙ e in
            let p_is_a : p.1 ≡ a = cc in
            let past : value_at rest (x +ℤ pos 1) ≡ Some b = sym (value_in_rest p rest (x +ℤ pos 1) k) ∙ f in
            absurd (leaves rest c.3 c.4 (rw last at past) (rw p_is_a d))
        go ih false true h k =
            let in_p = lies_within p.0 (x +ℤ pos 1) k in
            by_lt_z x p.0.0
            (λ less. let none = none_before_first same lo hi p rest x c less in absurd (cc))
            (λ more. let wrong : lies_in p.0 x ≡ true = inside p.0 x more (omega (arith, ints, in_p.1)) in absurd (cc))
        go ih false false h k = later (place_at rest x) (place_at rest (x +ℤ pos 1)) (ih (sym (value_in_rest p rest x h) ∙ e) (sym (value_in_rest p rest (x +ℤ pos 1) k) ∙ f) d)
