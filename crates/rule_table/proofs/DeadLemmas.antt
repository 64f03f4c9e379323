-- The test of dead rules says that they are.
use Rattle.std.proofs.Common.{rules, ◌≤◌, ◌≡◌, ℕ, zero, suc, ◌-◌, ◌^◌, List, length, refl, ap, arith}
use Rattle.std.specs.Prelude.{ℤ, pos, ◌+ℤ◌, ◌≤ℤ◌, Bool, true, false, ◌||◌, Option, Some, None, nat_eq, nat_lt, IsNone, IfSome, ◌↔◌}
use Rattle.std.specs.Bool.{MatchBool}
use Rattle.std.specs.Option.{option_eq}
use Rattle.std.proofs.lemmas.Bool.Decides.{Decides-eqb}
use Rattle.std.proofs.lemmas.Int.{ints, by_lt_z}
use Rattle.number_line.proofs.PlacedLemmas.{by_cases}
use Rattle.rule_table.proofs.WinnerLemmas.{some_place}
use Rattle.rule_table.specs.Rules.{winner, IsAddress, IsDead, Wins}
use Rattle.rule_table.specs.Dead.{is_given_among, is_dead, dead_at}
use Rattle.rule_table.specs.Laws.{DeadWinsNowhere}

same_place : (i : ℕ) (a : Option ℕ) → a ≡ Some i → option_eq nat_eq a (Some i) ≡ true
same_place i None e = cc
same_place i (Some a) e = (Decides-eqb a i).1 (some_is e)
  where
    some_is : {a b : ℕ} → Some a ≡ Some b → a ≡ b
    some_is e = cc

given_if : (f : ℤ → Option ℕ) (i : ℕ) (lo : ℤ) (n : ℕ) (x : ℤ) → lo ≤ℤ x → x ≤ℤ (lo +ℤ pos n) → f x ≡ Some i → is_given_among f i lo n ≡ true
unfolding is_given_among
given_if f i lo zero x low high e = let same : lo ≡ x = omega (arith, ints) in rw same (same_place i (f x) e)
given_if f i lo (suc n) x low high e = by_lt_z lo x
    (λ h. rw (given_if f i (lo +ℤ pos 1) n x (omega (arith, ints)) (omega (arith, ints)) e) (or_true (option_eq nat_eq (f lo) (Some i))))
    (λ h. let same : lo ≡ x = omega (arith, ints) in rw (same, same_place i (f x) e) refl)
  where
    or_true : (b : Bool) → (b || true) ≡ true
    or_true true = refl
    or_true false = refl

pub record GivenAt (f : ℤ → Option ℕ) (i : ℕ) (lo : ℤ) (n : ℕ) : Type 0 where
  pub at : ℤ
  pub low : lo ≤ℤ at
  pub high : at ≤ℤ (lo +ℤ pos n)
  pub value : f at ≡ Some i

given_then : (f : ℤ → Option ℕ) (i : ℕ) (lo : ℤ) (n : ℕ) → is_given_among f i lo n ≡ true → GivenAt f i lo n
unfolding is_given_among
given_then f i lo zero e = record { at = lo; low = omega (arith, ints); high = omega (arith, ints); value = some_place (f lo) (Some i) e }
given_then f i lo (suc n) e = by_cases (option_eq nat_eq (f lo) (Some i))
    (λ h. record { at = lo; low = omega (arith, ints); high = omega (arith, ints); value = some_place (f lo) (Some i) h })
    (λ h.
    let g : GivenAt f i (lo +ℤ pos 1) n = given_then f i (lo +ℤ pos 1) n (rw h at e) in
    let low = g.low in
    let high = g.high in
    record { at = g.at; low = omega (arith, ints); high = omega (arith, ints); value = g.value })

-- the test is true of the rules that win nowhere, and false of those that win
pub dead_wins_nowhere : {D : Type 0} → DeadWinsNowhere D
unfolding is_dead
dead_wins_nowhere list i = by_cases (is_given_among (winner list) i (pos 0) (2 ^ 32 - 1))
    (λ e.
    let g : GivenAt (winner list) i (pos 0) (2 ^ 32 - 1) = given_then (winner list) i (pos 0) (2 ^ 32 - 1) e in
    let high = g.high in
    let a : IsAddress g.at = record { low = g.low; high = omega (arith, ints) } in
    rw e (g.at, a, g.value))
    (λ e. rw e (λ x a won.
    let low = a.low in
    let high = a.high in
    let t : is_given_among (winner list) i (pos 0) (2 ^ 32 - 1) ≡ true = given_if (winner list) i (pos 0) (2 ^ 32 - 1) x a.low (omega (arith, ints)) won in
    cc))

-- a mark is the test
mark_is_test : {D : Type 0} (list : List ((ℤ × ℤ) × D)) (i : ℕ) (b : Bool) → MatchBool b (IsDead list i) (Wins list i) → b ≡ is_dead list i
mark_is_test list i b m = alike b (is_dead list i) m (dead_wins_nowhere list i)
  where
    alike : (b d : Bool) → MatchBool b (IsDead list i) (Wins list i) → MatchBool d (IsDead list i) (Wins list i) → b ≡ d
    alike true true m n = refl
    alike true false dead won = absurd (dead won.0 won.1 won.2)
    alike false true won dead = absurd (dead won.0 won.1 won.2)
    alike false false m n = refl

pub answer_is : {D : Type 0} (rules : List ((ℤ × ℤ) × D)) (n i : ℕ) (r : Option Bool) → length rules ≡ n → IsNone r ↔ (n ≤ i)
    → IfSome r (λ b. MatchBool b (IsDead rules i) (Wins rules i)) → r ≡ dead_at rules i
answer_is list n i None e iff m = let h : n ≤ i = iff.0 (search rules) in let t : nat_lt i (length list) ≡ false = grind arith in rw t refl
answer_is list n i (Some b) e iff m = by_cases (nat_lt i (length list))
    (λ t. rw t (ap Some (mark_is_test list i b m)))
    (λ t. let h : n ≤ i = grind arith in let none : IsNone (Some b) = iff.1 h in absurd (search (rules, none)))
