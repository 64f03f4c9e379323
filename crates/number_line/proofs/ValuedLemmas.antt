-- The value at a number, and when two canonical lists with values are the same.
use Rattle.std.proofs.Common.{◌≡◌, List, [], ◌∷◌, refl, arith, sym, ◌∙◌}
use Rattle.std.specs.Prelude.{ℤ, pos, ◌+ℤ◌, ◌≤ℤ◌, ◌<ℤ◌, Bool, true, false, Option, Some, None}
use Rattle.std.specs.Cmp.{IsEquivalence}
use Rattle.std.specs.Option.{option_eq}
use Rattle.std.specs.Ordering.{int_eq}
use Rattle.std.proofs.lemmas.Int.{ints, by_lt_z}
use Rattle.number_line.specs.Ranges.{lies_in}
use Rattle.number_line.specs.Valued.{value_at, StopsBefore, IsCanonicalMap, HasValues, same_valued, same_list}
use Rattle.number_line.specs.ValuedLaws.{SameValuesSameList}
use Rattle.number_line.proofs.RangeLemmas.{same_number}

pub inside : (r : ℤ × ℤ) (x : ℤ) → r.0 ≤ℤ x → x ≤ℤ r.1 → lies_in r x ≡ true
inside r x p q = grind (arith, ints)

pub before : (r : ℤ × ℤ) (x : ℤ) → x <ℤ r.0 → lies_in r x ≡ false
before r x h = grind (arith, ints)

pub behind : (r : ℤ × ℤ) (x : ℤ) → r.1 <ℤ x → lies_in r x ≡ false
behind r x h = grind (arith, ints)

pub lies_within : (r : ℤ × ℤ) (x : ℤ) → lies_in r x ≡ true → (r.0 ≤ℤ x) × (x ≤ℤ r.1)
lies_within r x h = (grind (arith, ints), grind (arith, ints))

module _ {V : Type 0} where
  pub value_in_first : (p : (ℤ × ℤ) × V) (rest : List ((ℤ × ℤ) × V)) (x : ℤ) → lies_in p.0 x ≡ true → value_at (p ∷ rest) x ≡ Some p.1
  value_in_first p rest x h = rw h

  pub value_in_rest : (p : (ℤ × ℤ) × V) (rest : List ((ℤ × ℤ) × V)) (x : ℤ) → lies_in p.0 x ≡ false → value_at (p ∷ rest) x ≡ value_at rest x
  value_in_rest p rest x h = rw h

module _ {V : Type 0} (same : V → V → Bool) where
  pub canonical-lower : (lo low hi : ℤ) (list : List ((ℤ × ℤ) × V)) → low ≤ℤ lo → IsCanonicalMap same lo hi list → IsCanonicalMap same low hi list
  canonical-lower lo low hi [] h c = tt
  canonical-lower lo low hi (p ∷ rest) h c = (omega (arith, ints), c.1, c.2, c.3, c.4)

  -- below its start a canonical list has no value
  pub none_below : (lo hi : ℤ) (list : List ((ℤ × ℤ) × V)) (x : ℤ) → IsCanonicalMap same lo hi list → x <ℤ lo → value_at list x ≡ None
  none_below lo hi [] x c h = refl
  none_below lo hi (p ∷ rest) x c h =
      value_in_rest p rest x (before p.0 x (omega (arith, ints))) ∙ none_below (p.0.1 +ℤ pos 1) hi rest x c.4 (omega (arith, ints))

  pub none_before_first : (lo hi : ℤ) (p : (ℤ × ℤ) × V) (rest : List ((ℤ × ℤ) × V)) (x : ℤ) → IsCanonicalMap same lo hi (p ∷ rest) → x <ℤ p.0.0 → value_at (p ∷ rest) x ≡ None
  none_before_first lo hi p rest x c h =
      value_in_rest p rest x (before p.0 x h) ∙ none_below (p.0.1 +ℤ pos 1) hi rest x c.4 (omega (arith, ints))

  module _ (equal : IsEquivalence same) where
    abbrev Agree : ℤ → ℤ → List ((ℤ × ℤ) × V) → List ((ℤ × ℤ) × V) → Type 0
    Agree lo hi a b = HasValues same (value_at b) lo hi a

    swapped : (a b : Option V) → option_eq same a b ≡ option_eq same b a
    swapped None None = refl
    swapped None (Some y) = refl
    swapped (Some x) None = refl
    swapped (Some x) (Some y) = equal.symm x y

    -- neither list begins before the other
    begins_no_sooner : (lo hi : ℤ) (p q : (ℤ × ℤ) × V) (a b : List ((ℤ × ℤ) × V)) → IsCanonicalMap same lo hi (p ∷ a) → IsCanonicalMap same lo hi (q ∷ b)
        → Agree lo hi (p ∷ a) (q ∷ b) → p.0.0 <ℤ q.0.0 → ⊥
    begins_no_sooner lo hi p q a b c d h less =
        let here = value_in_first p a p.0.0 (inside p.0 p.0.0 (omega (arith, ints)) c.1) in
        let there = none_before_first lo hi q b p.0.0 d less in
        let wrong : option_eq same (Some p.1) None ≡ true = rw (here, there) at (h p.0.0 c.0 (omega (arith, ints))) in
        cc

    first_values : (lo hi : ℤ) (p q : (ℤ × ℤ) × V) (a b : List ((ℤ × ℤ) × V)) → IsCanonicalMap same lo hi (p ∷ a) → IsCanonicalMap same lo hi (q ∷ b)
        → Agree lo hi (p ∷ a) (q ∷ b) → p.0.0 ≡ q.0.0 → same p.1 q.1 ≡ true
    first_values lo hi p q a b c d h start =
        let here = value_in_first p a p.0.0 (inside p.0 p.0.0 (omega (arith, ints)) c.1) in
        let there = value_in_first q b p.0.0 (inside q.0 p.0.0 (omega (arith, ints)) (omega (arith, ints))) in
        rw (here, there) at (h p.0.0 c.0 (omega (arith, ints)))

    -- where a range ends, what follows has another value or none
    stops : (lo hi : ℤ) (p : (ℤ × ℤ) × V) (a : List ((ℤ × ℤ) × V)) (v : V) → StopsBefore same p a → IsCanonicalMap same (p.0.1 +ℤ pos 1) hi a
        → same p.1 v ≡ true → option_eq same (value_at a (p.0.1 +ℤ pos 1)) (Some v) ≡ true → ⊥
    stops lo hi p [] v s c e h = cc
    stops lo hi p (r ∷ a) v s c e h = by_lt_z (p.0.1 +ℤ pos 1) r.0.0
        (λ k.
        let none = none_before_first (p.0.1 +ℤ pos 1) hi r a (p.0.1 +ℤ pos 1) c k in
        let wrong : option_eq same None (Some v) ≡ true = rw none at h in
        cc)
        (λ k.
        let there = value_in_first r a (p.0.1 +ℤ pos 1) (inside r.0 (p.0.1 +ℤ pos 1) k (omega (arith, ints))) in
        let both : same r.1 v ≡ true = rw there at h in
        let differ : same p.1 r.1 ≡ false = s (omega (arith, ints)) in
        let alike : same p.1 r.1 ≡ same v r.1 = equal.congr p.1 v r.1 e in
        let turned : same v r.1 ≡ same r.1 v = equal.symm v r.1 in
        cc)

    ends_no_sooner : (lo hi : ℤ) (p q : (ℤ × ℤ) × V) (a b : List ((ℤ × ℤ) × V)) → IsCanonicalMap same lo hi (p ∷ a) → IsCanonicalMap same lo hi (q ∷ b)
        → Agree lo hi (p ∷ a) (q ∷ b) → p.0.0 ≡ q.0.0 → p.0.1 <ℤ q.0.1 → ⊥
    ends_no_sooner lo hi p q a b c d h start less =
        let next = p.0.1 +ℤ pos 1 in
        let here = value_in_rest p a next (behind p.0 next (omega (arith, ints))) in
        let there = value_in_first q b next (inside q.0 next (omega (arith, ints)) (omega (arith, ints))) in
        stops lo hi p a q.1 c.3 c.4 (first_values lo hi p q a b c d h start) (rw (here, there) at (h next (omega (arith, ints)) (omega (arith, ints))))

    same_first : (p q : (ℤ × ℤ) × V) → p.0.0 ≡ q.0.0 → p.0.1 ≡ q.0.1 → same p.1 q.1 ≡ true → same_valued same p q ≡ true
    same_first p q start end e =
        let starts : int_eq p.0.0 q.0.0 ≡ true = grind (arith, ints) in
        let ends : int_eq p.0.1 q.0.1 ≡ true = grind (arith, ints) in
        rw (starts, ends) e

    -- two canonical lists with the same values are the same, pair by pair
    pub same_values_same_list : SameValuesSameList same
    same_values_same_list lo hi [] [] c d h = refl
    same_values_same_list lo hi [] (q ∷ b) c d h =
        let there = value_in_first q b q.0.0 (inside q.0 q.0.0 (omega (arith, ints)) d.1) in
        let wrong : option_eq same None (Some q.1) ≡ true = rw there at (h q.0.0 d.0 (omega (arith, ints))) in
        cc
    same_values_same_list lo hi (p ∷ a) [] c d h =
        let here = value_in_first p a p.0.0 (inside p.0 p.0.0 (omega (arith, ints)) c.1) in
        let wrong : option_eq same (Some p.1) None ≡ true = rw here at (h p.0.0 c.0 (omega (arith, ints))) in
        cc
    same_values_same_list lo hi (p ∷ a) (q ∷ b) c d h =
        let back : Agree lo hi (q ∷ b) (p ∷ a) = λ x u v. swapped (value_at (q ∷ b) x) (value_at (p ∷ a) x) ∙ h x u v in
        let start : p.0.0 ≡ q.0.0 = same_number p.0.0 q.0.0 (begins_no_sooner lo hi p q a b c d h) (begins_no_sooner lo hi q p b a d c back) in
        let end : p.0.1 ≡ q.0.1 = same_number p.0.1 q.0.1 (ends_no_sooner lo hi p q a b c d h start) (ends_no_sooner lo hi q p b a d c back (sym start)) in
        let d4 : IsCanonicalMap same (p.0.1 +ℤ pos 1) hi b = rw end d.4 in
        let rest : same_list same a b ≡ true = same_values_same_list (p.0.1 +ℤ pos 1) hi a b c.4 d4 (λ x u v.
        rw (← value_in_rest p a x (behind p.0 x (omega (arith, ints))), ← value_in_rest q b x (behind q.0 x (omega (arith, ints)))) (h x (omega (arith, ints)) v)) in
        rw (same_first p q start end (first_values lo hi p q a b c d h start), rest)
