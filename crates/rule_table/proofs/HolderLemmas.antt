-- The winner is the greatest place of a rule that holds the number.
use Rattle.std.proofs.Common.{◌≡◌, ℕ, zero, suc, ◌+◌, ◌≤◌, List, [], ◌∷◌, arith}
use Rattle.std.specs.Prelude.{ℤ, true, Option, Some, None, slice_get}
use Rattle.std.specs.Option.{option_or}
use Rattle.number_line.specs.Ranges.{lies_in}
use Rattle.number_line.specs.Rows.{with_places}
use Rattle.range_map.proofs.GrowthLemmas.{value_of_pair}
use Rattle.blaze_joins.specs.LastValue.{last_value_at}
use Rattle.rule_table.specs.Laws.{IsGreatestHolder, WinnerIsGreatest}
use Rattle.rule_table.proofs.WinnerLemmas.{some_is}
use Rattle.rule_table.proofs.DecisionLemmas.{Agree, agree, last_value-cons}

-- a place of k + j or more
abbrev AtLeast : ℕ → Option ℕ → Type 0
AtLeast n None = ⊥
AtLeast n (Some i) = n ≤ i

here : {D : Type 0} (k : ℕ) (rest : List ((ℤ × ℤ) × D)) (x : ℤ) (o : Option ℕ) (d : Option D) → Agree (suc k) rest x o d → AtLeast (k + 0) (option_or o (Some k))
here k rest x None None a = omega arith
here k rest x None (Some v) a = absurd a
here k rest x (Some i) None a = absurd a
here k rest x (Some i) (Some v) a = let e = a.2 in omega arith

there : (k j : ℕ) (o q : Option ℕ) → AtLeast (suc k + j) o → AtLeast (k + suc j) (option_or o q)
there k j None q h = absurd h
there k j (Some i) q h = omega arith

at_least : {D : Type 0} (k : ℕ) (list : List ((ℤ × ℤ) × D)) (x : ℤ) (j : ℕ) (p : (ℤ × ℤ) × D) → slice_get list j ≡ Some p → lies_in p.0 x ≡ true
    → AtLeast (k + j) (last_value_at (with_places k list) x)
at_least k [] x j p e h = cc
at_least k (q ∷ rest) x zero p e h =
    let same : q ≡ p = some_is e in
    let holds : lies_in q.0 x ≡ true = rw same h in
    rw (last_value-cons (q.0, k) (with_places (suc k) rest) x, holds)
    (here k rest x (last_value_at (with_places (suc k) rest) x) (last_value_at rest x) (agree (suc k) rest x))
at_least k (q ∷ rest) x (suc j) p e h =
    rw (last_value-cons (q.0, k) (with_places (suc k) rest) x)
    (there k j (last_value_at (with_places (suc k) rest) x) (value_of_pair (q.0, k) x) (at_least (suc k) rest x j p e h))

holder : {D : Type 0} (rules : List ((ℤ × ℤ) × D)) (x : ℤ) (i : ℕ) (d : Option D) → Agree 0 rules x (Some i) d
    → ((j : ℕ) (p : (ℤ × ℤ) × D) → slice_get rules j ≡ Some p → lies_in p.0 x ≡ true → j ≤ i) → IsGreatestHolder D rules x i
holder rules x i None a g = absurd a
holder rules x i (Some v) a g =
    let e : i ≡ a.0 = let h = a.2 in omega arith in
    record { rule = a.1; there = rw e a.3; holds = a.5; greatest = g }

pub winner_is_greatest : {D : Type 0} → WinnerIsGreatest D
winner_is_greatest rules x = (
  (λ i e. holder rules x i (last_value_at rules x) (rw e at (agree 0 rules x)) (λ j p there h. (let n : AtLeast (0 + j) (Some i) = rw e at (at_least 0 rules x j p there h) in omega arith))),
  (λ e j p there h. rw e at (at_least 0 rules x j p there h)),
)
