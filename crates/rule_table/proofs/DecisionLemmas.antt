-- The decision at a number is that of the last rule that holds it, and the winner the greatest place of such a rule.
use Rattle.std.proofs.Common.{◌≡◌, ℕ, suc, ◌+◌, ◌-◌, ◌^◌, List, [], ◌∷◌, refl, ap, arith, ◌∙◌, map, reverse, subst}
use Rattle.std.specs.Prelude.{ℤ, pos, Bool, true, Option, Some, None, slice_get}
use Rattle.std.specs.Option.{option_or, option_eq}
use Rattle.std.proofs.lemmas.Int.{ints}
use Rattle.std.proofs.lemmas.List.{reverse-append}
use Rattle.number_line.specs.Ranges.{lies_in}
use Rattle.number_line.specs.Rows.{with_places, value_of_place, segment_of}
use Rattle.number_line.specs.Segments.{segments}
use Rattle.number_line.specs.Valued.{value_at, IsCanonicalMap, HasValues}
use Rattle.number_line.proofs.CoverLemmas.{fewest}
use Rattle.number_line.proofs.PlacedLemmas.{by_cases}
use Rattle.number_line.proofs.RowLemmas.{total_is_segments}
use Rattle.number_line.proofs.SegmentLemmas.{segments_cut}
use Rattle.range_map.proofs.GrowthLemmas.{value_of_pair, value_at-push}
use Rattle.blaze_joins.specs.LastValue.{last_value_at}
use Rattle.rule_table.specs.Laws.{FewestSegments}
use Rattle.rule_table.specs.Rules.{winner, decision_at}
use Rattle.rule_table.specs.Decisions.{same_decision, decision_segments}
use Rattle.rule_table.specs.declared.rule.Decision.{Decision}
use Rattle.rule_table.specs.declared.rule.Decision.TheVariants.{Allow, Deny}

pub last_value-cons : {V : Type 0} (p : (ℤ × ℤ) × V) (rest : List ((ℤ × ℤ) × V)) (x : ℤ) → last_value_at (p ∷ rest) x ≡ option_or (last_value_at rest x) (value_of_pair p x)
last_value-cons p rest x = ap (λ list. value_at list x) (reverse-append (p ∷ []) rest) ∙ value_at-push (reverse rest) p x

-- the place i and the value v are those of a rule that holds x, and none follows it that does
abbrev pub Agree : {D : Type 0} → ℕ → List ((ℤ × ℤ) × D) → ℤ → Option ℕ → Option D → Type 0
Agree k list x None None = Unit {0}
Agree k list x None (Some v) = ⊥
Agree k list x (Some i) None = ⊥
Agree {D} k list x (Some i) (Some v) = (j : ℕ) × (p : (ℤ × ℤ) × D) × (i ≡ k + j) × (slice_get list j ≡ Some p) × (p.1 ≡ v) × (lies_in p.0 x ≡ true)

step : {D : Type 0} (k : ℕ) (p : (ℤ × ℤ) × D) (rest : List ((ℤ × ℤ) × D)) (x : ℤ) (o : Option ℕ) (d : Option D) → Agree (suc k) rest x o d
    → Agree k (p ∷ rest) x (option_or o (value_of_pair (p.0, k) x)) (option_or d (value_of_pair p x))
step k p rest x None None a = by_cases (lies_in p.0 x) (λ e. rw e (0, p, omega arith, refl, refl, e)) (λ e. rw e tt)
step k p rest x None (Some v) a = absurd a
step k p rest x (Some i) None a = absurd a
step k p rest x (Some i) (Some v) a = (suc a.0, a.1, (let e = a.2 in omega arith), a.3, a.4, a.5)

pub agree : {D : Type 0} (k : ℕ) (list : List ((ℤ × ℤ) × D)) (x : ℤ) → Agree k list x (last_value_at (with_places k list) x) (last_value_at list x)
agree k [] x = tt
agree k (p ∷ rest) x =
    rw (last_value-cons (p.0, k) (with_places (suc k) rest) x, last_value-cons p rest x)
    (step k p rest x (last_value_at (with_places (suc k) rest) x) (last_value_at rest x) (agree (suc k) rest x))

read : {D : Type 0} (list : List ((ℤ × ℤ) × D)) (x : ℤ) (o : Option ℕ) (d : Option D) → Agree 0 list x o d → value_of_place list o ≡ d
read list x None None a = refl
read list x None (Some v) a = absurd a
read list x (Some i) None a = absurd a
read {D} list x (Some i) (Some v) a =
    let e : i ≡ a.0 = let h = a.2 in omega arith in
    rw (e, a.3) (ap Some a.4)

-- the winner's decision is that of the last rule that holds the number
pub decision_is_last : {D : Type 0} (rules : List ((ℤ × ℤ) × D)) (x : ℤ) → decision_at rules x ≡ last_value_at rules x
decision_is_last rules x = read rules x (winner rules x) (last_value_at rules x) (agree 0 rules x)

-- ---- segments

same_is : (a b : Decision) → same_decision a b ≡ true → a ≡ b
same_is Allow Allow e = refl
same_is Allow Deny e = cc
same_is Deny Allow e = cc
same_is Deny Deny e = refl

same_itself : (a : Decision) → same_decision a a ≡ true
same_itself Allow = refl
same_itself Deny = refl

slot_is : (a b : Option Decision) → option_eq same_decision a b ≡ true → a ≡ b
slot_is None None e = refl
slot_is None (Some b) e = cc
slot_is (Some a) None e = cc
slot_is (Some a) (Some b) e = ap Some (same_is a b e)

slot_itself : (a : Option Decision) → option_eq same_decision a a ≡ true
slot_itself None = refl
slot_itself (Some a) = same_itself a

-- a test that is `same_decision` at each two decisions
pub one_test : (same : Decision → Decision → Bool) → ((a b : Decision) → same a b ≡ same_decision a b) → same ≡ same_decision
one_test same e = λ i a b. e a b i

pub rows_are_segments : (same : Decision → Decision → Bool) → same ≡ same_decision → (rules : List ((ℤ × ℤ) × Decision)) (decisions : List ((ℤ × ℤ) × Decision)) (rows : List ((ℤ × ℤ) × Option Decision))
    → HasValues same (last_value_at rules) (pos 0) (pos (2 ^ 32 - 1)) decisions
    → IsCanonicalMap (option_eq same) (pos 0) (pos (2 ^ 32 - 1)) rows
    → HasValues (option_eq same) (λ x. Some (value_at decisions x)) (pos 0) (pos (2 ^ 32 - 1)) rows
    → map segment_of rows ≡ decision_segments rules
unfolding decision_segments
rows_are_segments same one rules decisions rows h c v =
    total_is_segments (option_eq same_decision) slot_is slot_itself (decision_at rules) (pos (2 ^ 32 - 1)) (pos 0) (2 ^ 32 - 1) rows (omega (arith, ints))
    (subst (λ t. IsCanonicalMap (option_eq t) (pos 0) (pos (2 ^ 32 - 1)) rows) one c)
    (λ x low high.
    let h' : option_eq same_decision (value_at decisions x) (last_value_at rules x) ≡ true = subst (λ t. option_eq t (value_at decisions x) (last_value_at rules x) ≡ true) one (h x low high) in
    let v' : option_eq (option_eq same_decision) (value_at rows x) (Some (value_at decisions x)) ≡ true =
    subst (λ t. option_eq (option_eq t) (value_at rows x) (Some (value_at decisions x)) ≡ true) one (v x low high) in
    rw (decision_is_last rules x, ← slot_is (value_at decisions x) (last_value_at rules x) h') v')

pub fewest_segments : (rules : List ((ℤ × ℤ) × Decision)) → FewestSegments rules
unfolding decision_segments
fewest_segments rules =
    let same = option_eq same_decision in
    let made = segments same (decision_at rules) (pos 0) (2 ^ 32 - 1) in
    let last = pos (2 ^ 32 - 1) in
    let c = segments_cut same (decision_at rules) last (pos 0) (2 ^ 32 - 1) (omega (arith, ints)) in
    record { cut = c; fewest = λ cover d. fewest same slot_itself (decision_at rules) last (pos 0) made cover c d }
