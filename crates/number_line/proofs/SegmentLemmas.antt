use Rattle.std.proofs.Common.{◌≡◌, ℕ, zero, suc, List, [], ◌∷◌, refl, arith, sym, ◌∙◌}
use Rattle.std.specs.Prelude.{ℤ, pos, ◌+ℤ◌, ◌-ℤ◌, ◌≤ℤ◌, ◌<ℤ◌, Bool, true, false, if◌then◌else◌, unsigned_abs}
use Rattle.std.proofs.lemmas.Int.{ints, by_lt_z}
use Rattle.number_line.specs.Ranges.{holds, IsCanonical}
use Rattle.number_line.specs.Segments.{Segment, put_before, segments, IsCut, true_ranges, same_bool, runs}
use Rattle.number_line.proofs.RangeLemmas.{same_number, first_holds, rest_holds, from_lower, below_start, same_list}

-- how far x is above lo
pub distance : (lo x : ℤ) → lo ≤ℤ x → (k : ℕ) × (x ≡ lo +ℤ pos k)
distance lo x h = (unsigned_abs (x -ℤ lo), omega (arith, ints))

module _ {L : Type 0} (same : L → L → Bool) (f : ℤ → L) (hi : ℤ) where
  -- a number put before a cut of those after it
  put_before_cut : (lo : ℤ) (list : List (Segment L)) → lo <ℤ hi → IsCut same f hi (lo +ℤ pos 1) list → IsCut same f hi lo (put_before same lo (f lo) list)
  put_before_cut lo [] h c = absurd (omega (arith, ints))
  put_before_cut lo (s ∷ rest) h c = at (same (f lo) s.label) refl
    where
      at : (b : Bool) → same (f lo) s.label ≡ b → IsCut same f hi lo (if b then record { first = lo; last = s.last; label = f lo } ∷ rest else record { first = lo; last = lo; label = f lo } ∷ s ∷ rest)
      at true e = (refl, omega (arith, ints), c.2, refl, (λ x p q. by_lt_z lo x (λ k. c.4 x (omega (arith, ints)) q) (λ k. let z : x ≡ lo = omega (arith, ints) in rw (z, ← c.3) e)), c.5, c.6)
      at false e = (refl, omega (arith, ints), omega (arith, ints), refl, (λ x p q. absurd (omega (arith, ints))), (λ k. rw (← c.3) e), c)

  -- the segments are a cut
  pub segments_cut : (lo : ℤ) (n : ℕ) → hi ≡ lo +ℤ pos n → IsCut same f hi lo (segments same f lo n)
  unfolding segments
  segments_cut lo zero e = (refl, omega (arith, ints), omega (arith, ints), refl, (λ x p q. absurd (omega (arith, ints))), (λ k. absurd (omega (arith, ints))), omega (arith, ints))
  segments_cut lo (suc n) e = put_before_cut lo (segments same f (lo +ℤ pos 1) n) (omega (arith, ints)) (segments_cut (lo +ℤ pos 1) n (omega (arith, ints)))

  ends_no_sooner : (lo : ℤ) (s t : Segment L) (a b : List (Segment L)) → IsCut same f hi lo (s ∷ a) → IsCut same f hi lo (t ∷ b) → s.last <ℤ t.last → ⊥
  ends_no_sooner lo s t a b c d less =
      let stop : same (f s.last) (f (s.last +ℤ pos 1)) ≡ false = c.5 (omega (arith, ints)) in
      let on : same (f s.last) (f (s.last +ℤ pos 1)) ≡ true = d.4 s.last c.1 less in
      cc

  -- and there is no other
  pub one_cut : (lo : ℤ) (a b : List (Segment L)) → IsCut same f hi lo a → IsCut same f hi lo b → a ≡ b
  one_cut lo [] [] c d = refl
  one_cut lo [] (t ∷ b) c d = absurd (omega (arith, ints))
  one_cut lo (s ∷ a) [] c d = absurd (omega (arith, ints))
  one_cut lo (s ∷ a) (t ∷ b) c d =
      let end : s.last ≡ t.last = same_number s.last t.last (ends_no_sooner lo s t a b c d) (ends_no_sooner lo t s b a d c) in
      let d6 : IsCut same f hi (s.last +ℤ pos 1) b = rw end d.6 in
      let rest : a ≡ b = one_cut (s.last +ℤ pos 1) a b c.6 d6 in
      let one : s ≡ t = segment_of s t (c.0 ∙ sym d.0) end (c.3 ∙ sym d.3) in
      cc
    where
      segment_of : (s t : Segment L) → s.first ≡ t.first → s.last ≡ t.last → s.label ≡ t.label → s ≡ t
      segment_of s t p q r = λ i. record { first = p i; last = q i; label = r i }

  -- a list that is a cut is the segments
  pub cut_is_segments : (lo : ℤ) (n : ℕ) (list : List (Segment L)) → hi ≡ lo +ℤ pos n → IsCut same f hi lo list → list ≡ segments same f lo n
  cut_is_segments lo n list e c = one_cut lo list (segments same f lo n) c (segments_cut lo n e)

-- ---- truth values

same_bool_true : (a b : Bool) → same_bool a b ≡ true → b ≡ a
same_bool_true true b e = e
same_bool_true false true e = sym e
same_bool_true false false e = refl

same_bool_false : (a b : Bool) → same_bool a b ≡ false → a ≡ true → b ≡ false
same_bool_false true b e h = e
same_bool_false false b e h = cc

module _ (f : ℤ → Bool) (hi : ℤ) where
  -- f is one from the first number of a segment to its last
  one_value : (lo last : ℤ) → ((x : ℤ) → lo ≤ℤ x → x <ℤ last → same_bool (f x) (f (x +ℤ pos 1)) ≡ true) → (k : ℕ) → (lo +ℤ pos k) ≤ℤ last → f (lo +ℤ pos k) ≡ f lo
  one_value lo last h zero e = let z : lo +ℤ pos 0 ≡ lo = omega (arith, ints) in rw z
  one_value lo last h (suc k) e =
      let z : lo +ℤ pos (suc k) ≡ (lo +ℤ pos k) +ℤ pos 1 = omega (arith, ints) in
      rw z (same_bool_true (f (lo +ℤ pos k)) (f ((lo +ℤ pos k) +ℤ pos 1)) (h (lo +ℤ pos k) (omega (arith, ints)) (omega (arith, ints))) ∙ one_value lo last h k (omega (arith, ints)))

  label_holds : (lo : ℤ) (s : Segment Bool) (rest : List (Segment Bool)) → IsCut same_bool f hi lo (s ∷ rest) → (x : ℤ) → lo ≤ℤ x → x ≤ℤ s.last → f x ≡ s.label
  label_holds lo s rest c x p q =
      let d = distance lo x p in
      let e : f (lo +ℤ pos d.0) ≡ f lo = one_value lo s.last c.4 d.0 (rw (← d.1) q) in
      rw d.1 (e ∙ sym c.3)

  -- the true ranges of a cut are canonical
  mutual
    canonical_trues : (lo : ℤ) (list : List (Segment Bool)) → IsCut same_bool f hi lo list → IsCanonical lo hi (true_ranges list)
    canonical_trues lo [] c = tt
    canonical_trues lo (s ∷ rest) c = at (canonical_later (s.last +ℤ pos 1) rest c.6) (canonical_trues (s.last +ℤ pos 1) rest c.6) s.label refl
      where
        at : (((s.last +ℤ pos 1) ≤ℤ hi → f (s.last +ℤ pos 1) ≡ false) → IsCanonical ((s.last +ℤ pos 1) +ℤ pos 1) hi (true_ranges rest)) → IsCanonical (s.last +ℤ pos 1) hi (true_ranges rest) → (b : Bool) → s.label ≡ b → IsCanonical lo hi (if b then (s.first, s.last) ∷ true_ranges rest else true_ranges rest)
        at later ih true e =
            let two : (s.last +ℤ pos 1) +ℤ pos 1 ≡ s.last +ℤ pos 2 = omega (arith, ints) in
            let here : f s.last ≡ true = label_holds lo s rest c s.last c.1 (omega (arith, ints)) ∙ e in (
              omega (arith, ints),
              omega (arith, ints),
              c.2,
              rw two at (later (λ k. same_bool_false (f s.last) (f (s.last +ℤ pos 1)) (c.5 (omega (arith, ints))) here)),
            )
        at later ih false e = from_lower (s.last +ℤ pos 1) lo hi (true_ranges rest) (omega (arith, ints)) ih

    canonical_later : (lo : ℤ) (list : List (Segment Bool)) → IsCut same_bool f hi lo list → (lo ≤ℤ hi → f lo ≡ false) → IsCanonical (lo +ℤ pos 1) hi (true_ranges list)
    canonical_later lo [] c h = tt
    canonical_later lo (s ∷ rest) c h = at (canonical_trues (s.last +ℤ pos 1) rest c.6) s.label refl
      where
        at : IsCanonical (s.last +ℤ pos 1) hi (true_ranges rest) → (b : Bool) → s.label ≡ b → IsCanonical (lo +ℤ pos 1) hi (if b then (s.first, s.last) ∷ true_ranges rest else true_ranges rest)
        at ih true e = let z : f lo ≡ false = h (omega (arith, ints)) in let l : s.label ≡ f lo = c.3 in absurd (cc)
        at ih false e = from_lower (s.last +ℤ pos 1) (lo +ℤ pos 1) hi (true_ranges rest) (omega (arith, ints)) ih

  -- and hold just the numbers at which f is true
  true_ranges_hold : (lo : ℤ) (list : List (Segment Bool)) → IsCut same_bool f hi lo list → (x : ℤ) → lo ≤ℤ x → x ≤ℤ hi → holds (true_ranges list) x ≡ f x
  true_ranges_hold lo [] c x p q = absurd (omega (arith, ints))
  true_ranges_hold lo (s ∷ rest) c x p q = by_lt_z s.last x (λ k. after (true_ranges_hold (s.last +ℤ pos 1) rest c.6 x (omega (arith, ints)) q) s.label refl k) (here s.label refl)
    where
      after : holds (true_ranges rest) x ≡ f x → (b : Bool) → s.label ≡ b → s.last <ℤ x → holds (if b then (s.first, s.last) ∷ true_ranges rest else true_ranges rest) x ≡ f x
      after ih true e k = rest_holds (s.first, s.last) (true_ranges rest) x k ∙ ih
      after ih false e k = ih

      here : (b : Bool) → s.label ≡ b → x ≤ℤ s.last → holds (if b then (s.first, s.last) ∷ true_ranges rest else true_ranges rest) x ≡ f x
      here true e k = first_holds (s.first, s.last) (true_ranges rest) x (omega (arith, ints)) k ∙ sym (label_holds lo s rest c x p k ∙ e)
      here false e k = below_start (s.last +ℤ pos 1) hi (true_ranges rest) x (canonical_trues (s.last +ℤ pos 1) rest c.6) (omega (arith, ints)) ∙ sym (label_holds lo s rest c x p k ∙ e)

  pub runs_canonical : (lo : ℤ) (n : ℕ) → hi ≡ lo +ℤ pos n → IsCanonical lo hi (runs f lo n)
  unfolding runs
  runs_canonical lo n e = canonical_trues lo (segments same_bool f lo n) (segments_cut same_bool f hi lo n e)

  pub runs_hold : (lo : ℤ) (n : ℕ) → hi ≡ lo +ℤ pos n → (x : ℤ) → lo ≤ℤ x → x ≤ℤ hi → holds (runs f lo n) x ≡ f x
  unfolding runs
  runs_hold lo n e x p q = true_ranges_hold lo (segments same_bool f lo n) (segments_cut same_bool f hi lo n e) x p q

  -- a canonical list that holds just the numbers at which f is true is its list of runs
  pub canonical_is_runs : (lo : ℤ) (n : ℕ) (list : List (ℤ × ℤ)) → hi ≡ lo +ℤ pos n → IsCanonical lo hi list
      → ((x : ℤ) → lo ≤ℤ x → x ≤ℤ hi → holds list x ≡ f x) → list ≡ runs f lo n
  canonical_is_runs lo n list e c h = same_list lo hi list (runs f lo n) c (runs_canonical lo n e) (λ x p q. h x p q ∙ sym (runs_hold lo n e x p q))
