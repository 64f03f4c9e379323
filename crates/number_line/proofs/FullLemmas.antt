-- Canonical lists that hold every number from lo to hi.
use Rattle.std.proofs.Common.{◌≡◌, List, ◌∷◌, refl, arith}
use Rattle.std.specs.Prelude.{ℤ, pos, ◌+ℤ◌, ◌≤ℤ◌, ◌<ℤ◌, Bool, true, false, not, IsTrue, ◌↔◌}
use Rattle.std.specs.Bool.{MatchBool}
use Rattle.std.proofs.lemmas.Int.{ints}
use Rattle.number_line.specs.Ranges.{holds, IsCanonical}
use Rattle.number_line.proofs.RangeLemmas.{below_start, first_holds, rest_holds}

-- each number from lo to hi is in one of the ranges
abbrev pub HoldsAll : ℤ → ℤ → List (ℤ × ℤ) → Type 0
HoldsAll lo hi list = (x : ℤ) → lo ≤ℤ x → x ≤ℤ hi → holds list x ≡ true

module _ (lo hi : ℤ) (order : lo ≤ℤ hi) (r : ℤ × ℤ) (rest : List (ℤ × ℤ)) (c : IsCanonical lo hi (r ∷ rest)) where
  pub starts_above : lo <ℤ r.0 → HoldsAll lo hi (r ∷ rest) → ⊥
  starts_above above all =
      let no : holds (r ∷ rest) lo ≡ false = below_start r.0 hi (r ∷ rest) lo (omega (arith, ints), c.1, c.2, c.3) above in
      let yes : holds (r ∷ rest) lo ≡ true = all lo (omega (arith, ints)) order in
      cc

  pub ends_below : r.1 <ℤ hi → HoldsAll lo hi (r ∷ rest) → ⊥
  ends_below below all =
      let next = r.1 +ℤ pos 1 in
      let others : holds (r ∷ rest) next ≡ holds rest next = rest_holds r rest next (omega (arith, ints)) in
      let no : holds rest next ≡ false = below_start (r.1 +ℤ pos 2) hi rest next c.3 (omega (arith, ints)) in
      let yes : holds (r ∷ rest) next ≡ true = all next (omega (arith, ints)) (omega (arith, ints)) in
      cc

  pub not_full : (b : Bool) → MatchBool b (lo <ℤ r.0) (r.0 ≤ℤ lo) → b ≡ true → (IsTrue (not b)) ↔ HoldsAll lo hi (r ∷ rest)
  not_full true above e = (λ no. absurd (cc), λ all. absurd (starts_above above all))
  not_full false above e = absurd (cc)

  pub full_by_end : r.0 ≤ℤ lo → (b : Bool) → MatchBool b (r.1 <ℤ hi) (hi ≤ℤ r.1) → (IsTrue (not b)) ↔ HoldsAll lo hi (r ∷ rest)
  full_by_end start true below = (λ no. absurd (cc), λ all. absurd (ends_below below all))
  full_by_end start false above = (λ yes x p q. first_holds r rest x (omega (arith, ints)) (omega (arith, ints)), λ all. refl)
