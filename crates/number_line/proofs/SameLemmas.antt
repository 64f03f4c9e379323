-- Lists that are the same pair by pair, and canonical where one of them is.
use Rattle.std.proofs.Common.{◌≡◌, List, [], ◌∷◌, ap, sym, ◌∙◌}
use Rattle.std.specs.Prelude.{ℤ, pos, ◌+ℤ◌, Bool, true, false, ◌&&◌}
use Rattle.std.specs.Cmp.{IsEquivalence}
use Rattle.std.specs.Ordering.{int_eq}
use Rattle.std.proofs.lemmas.Bool.{and_parts}
use Rattle.std.proofs.lemmas.Bool.Decides.{Decides-int_eq}
use Rattle.number_line.specs.Valued.{StopsBefore, IsCanonicalMap, same_valued, same_list}

module _ {V : Type 0} (same : V → V → Bool) where
  -- the parts of two pairs that are the same
  parts : (p q : (ℤ × ℤ) × V) → same_valued same p q ≡ true → (p.0.0 ≡ q.0.0) × (p.0.1 ≡ q.0.1) × (same p.1 q.1 ≡ true)
  parts p q h =
      let one = and_parts (int_eq p.0.0 q.0.0) (int_eq p.0.1 q.0.1 && same p.1 q.1) h in
      let two = and_parts (int_eq p.0.1 q.0.1) (same p.1 q.1) one.1 in
      ((Decides-int_eq p.0.0 q.0.0).0 one.0, (Decides-int_eq p.0.1 q.0.1).0 two.0, two.1)

  module _ (eq : IsEquivalence same) where
    stops_same : (p q : (ℤ × ℤ) × V) (copy list : List ((ℤ × ℤ) × V)) → same_valued same p q ≡ true → same_list same copy list ≡ true
        → StopsBefore same q list → StopsBefore same p copy
    stops_same p q [] list c all stops = tt
    stops_same p q (n ∷ copy) [] c all stops = absurd (cc)
    stops_same p q (n ∷ copy) (m ∷ list) c all stops = λ touch.
        let here = parts p q c in
        let first = and_parts (same_valued same n m) (same_list same copy list) all in
        let there = parts n m first.0 in
        let apart : same q.1 m.1 ≡ false = stops (sym there.0 ∙ (touch ∙ ap (λ k. k +ℤ pos 1) here.1)) in
        let one : same p.1 n.1 ≡ same q.1 n.1 = eq.congr p.1 q.1 n.1 here.2 in
        let other : same n.1 q.1 ≡ same m.1 q.1 = eq.congr n.1 m.1 q.1 there.2 in
        one ∙ (eq.symm q.1 n.1 ∙ (other ∙ (eq.symm m.1 q.1 ∙ apart)))

    pub canonical_same : (lo hi : ℤ) (copy list : List ((ℤ × ℤ) × V)) → same_list same copy list ≡ true → IsCanonicalMap same lo hi list
        → IsCanonicalMap same lo hi copy
    canonical_same lo hi [] list all c = tt
    canonical_same lo hi (p ∷ copy) [] all c = absurd (cc)
    canonical_same lo hi (p ∷ copy) (q ∷ list) all c =
        let first = and_parts (same_valued same p q) (same_list same copy list) all in
        let here = parts p q first.0 in
        let rest = canonical_same (q.0.1 +ℤ pos 1) hi copy list first.1 c.4 in
        (rw here.0 c.0, rw (here.0, here.1) c.1, rw here.1 c.2, stops_same p q copy list first.0 first.1 c.3, rw here.1 rest)
