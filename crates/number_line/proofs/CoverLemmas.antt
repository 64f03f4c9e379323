use Rattle.std.proofs.Common.{◌≡◌, suc, ◌≤◌, List, [], ◌∷◌, length, refl, arith, sym, ◌∙◌}
use Rattle.std.specs.Prelude.{ℤ, pos, ◌+ℤ◌, ◌<ℤ◌, Bool, true, false}
use Rattle.std.proofs.lemmas.Int.{ints, by_lt_z}
use Rattle.number_line.specs.Segments.{Segment, IsCut, IsCover}

module _ {L : Type 0} (same : L → L → Bool) (same_refl : (l : L) → same l l ≡ true) (f : ℤ → L) (hi : ℤ) where
  -- a cut has no more segments than any cover has ranges
  pub fewest : (lo : ℤ) (list : List (Segment L)) (cover : List (ℤ × ℤ)) → IsCut same f hi lo list → IsCover f hi lo cover → length list ≤ length cover
  fewest lo [] cover c d = omega arith
  fewest lo (s ∷ rest) [] c d = absurd (omega (arith, ints))
  fewest lo (s ∷ rest) (r ∷ rs) c d =
      by_lt_z s.last r.1 (λ k. absurd (longer k)) (λ k. by_lt_z r.1 s.last
      (λ m. within (fewest (r.1 +ℤ pos 1) (record { first = r.1 +ℤ pos 1; last = s.last; label = f (r.1 +ℤ pos 1) } ∷ rest) rs (shorter m) d.4))
      (λ m. let e : r.1 ≡ s.last = omega (arith, ints) in whole (fewest (s.last +ℤ pos 1) rest rs c.6 (rw e at d.4))))
    where
      longer : s.last <ℤ r.1 → ⊥
      longer k =
          let a : same (f s.last) (f (s.last +ℤ pos 1)) ≡ false = c.5 (omega (arith, ints)) in
          let e : f (s.last +ℤ pos 1) ≡ f s.last = d.3 (s.last +ℤ pos 1) (omega (arith, ints)) (omega (arith, ints)) ∙ sym (d.3 s.last c.1 (omega (arith, ints))) in
          let b : same (f s.last) (f (s.last +ℤ pos 1)) ≡ true = rw e (same_refl (f s.last)) in
          cc

      shorter : r.1 <ℤ s.last → IsCut same f hi (r.1 +ℤ pos 1) (record { first = r.1 +ℤ pos 1; last = s.last; label = f (r.1 +ℤ pos 1) } ∷ rest)
      shorter m = (refl, omega (arith, ints), c.2, refl, (λ x p q. c.4 x (omega (arith, ints)) q), c.5, c.6)

      within : suc (length rest) ≤ length rs → suc (length rest) ≤ suc (length rs)
      within h = omega arith

      whole : length rest ≤ length rs → suc (length rest) ≤ suc (length rs)
      whole h = omega arith
