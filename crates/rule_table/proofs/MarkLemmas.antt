-- What the marks of dead rules say.
use Rattle.std.proofs.Common.{◌≡◌, ℕ, zero, suc, ◌^◌, ◌-◌, List, [], ◌∷◌, length, refl, ap, sym, ◌∙◌, ◌⊎◌, inl, inr}
use Rattle.std.specs.Prelude.{ℤ, pos, Bool, true, false, Some, nat_eq, slice_get, slice_set, replicate}
use Rattle.std.specs.Bool.{MatchBool}
use Rattle.std.proofs.lemmas.Bool.Decides.{Decides-eqb}
use Rattle.std.proofs.lemmas.List.{length-replicate}
use Rattle.number_line.proofs.PlacedLemmas.{by_cases}
use Rattle.rule_table.specs.Rules.{IsAddress, IsDead, Wins}
use Rattle.rule_table.specs.Winners.{AreWinners, marks_left, AreDeadMarks}
use Rattle.rule_table.proofs.WinnerLemmas.{is_among_values, StandsAt, stands_at, stands_nowhere}

get_set_other : (xs : List Bool) (j i : ℕ) (v : Bool) → (j ≡ i → ⊥) → slice_get (slice_set xs j v) i ≡ slice_get xs i
get_set_other [] j i v ne = refl
get_set_other (x ∷ xs) zero zero v ne = absurd (ne refl)
get_set_other (x ∷ xs) zero (suc i) v ne = refl
get_set_other (x ∷ xs) (suc j) zero v ne = refl
get_set_other (x ∷ xs) (suc j) (suc i) v ne = get_set_other xs j i v (λ e. ne (ap suc e))

get_set_same : (xs : List Bool) (i : ℕ) (v w : Bool) → slice_get (slice_set xs i v) i ≡ Some w → w ≡ v
get_set_same [] i v w e = cc
get_set_same (x ∷ xs) zero v w e = cc
get_set_same (x ∷ xs) (suc i) v w e = get_set_same xs i v w e

get_replicate : (n i : ℕ) (v w : Bool) → slice_get (replicate n v) i ≡ Some w → w ≡ v
get_replicate zero i v w e = cc
get_replicate (suc n) zero v w e = cc
get_replicate (suc n) (suc i) v w e = get_replicate n i v w e

length_set : (xs : List Bool) (i : ℕ) (v : Bool) → length (slice_set xs i v) ≡ length xs
length_set [] i v = refl
length_set (x ∷ xs) zero v = refl
length_set (x ∷ xs) (suc i) v = ap suc (length_set xs i v)

pub length_marked : (dead : List Bool) (list : List ((ℤ × ℤ) × ℕ)) → length (marks_left dead list) ≡ length dead
length_marked dead [] = refl
length_marked dead (p ∷ rest) = length_marked (slice_set dead p.1 false) rest ∙ length_set dead p.1 false

differ : (a b : ℕ) → nat_eq a b ≡ false → a ≡ b → ⊥
differ a b e same = let test : nat_eq a b ≡ true = (Decides-eqb a b).1 same in cc

-- a mark is left only where the value doesn't stand in the list
still_marked : (i : ℕ) (dead : List Bool) (list : List ((ℤ × ℤ) × ℕ)) → slice_get (marks_left dead list) i ≡ Some true → (is_among_values i list ≡ false) × (slice_get dead i ≡ Some true)
still_marked i dead [] e = (refl, e)
still_marked i dead (p ∷ rest) e =
    let h : (is_among_values i rest ≡ false) × (slice_get (slice_set dead p.1 false) i ≡ Some true) = still_marked i (slice_set dead p.1 false) rest e in
    by_cases (nat_eq p.1 i)
    (λ k.
    let same : p.1 ≡ i = (Decides-eqb p.1 i).0 k in
    let wrong : true ≡ false = get_set_same dead i false true (rw same at h.1) in
    absurd (cc))
    (λ k. (rw k h.0, sym (get_set_other dead p.1 i false (differ p.1 i k)) ∙ h.1))

-- and it is gone only where it does, or where it was gone before
no_more_marked : (i : ℕ) (dead : List Bool) (list : List ((ℤ × ℤ) × ℕ)) → slice_get (marks_left dead list) i ≡ Some false → (is_among_values i list ≡ true) ⊎ (slice_get dead i ≡ Some false)
no_more_marked i dead [] e = inr e
no_more_marked i dead (p ∷ rest) e = by_cases (nat_eq p.1 i)
    (λ k. inl (rw k refl))
    (λ k. elim (no_more_marked i (slice_set dead p.1 false) rest e) [
      | inl h ↦ inl (rw k h)
      | inr h ↦ inr (sym (get_set_other dead p.1 i false (differ p.1 i k)) ∙ h)
    ])

pub dead_marks : {D : Type 0} (rules : List ((ℤ × ℤ) × D)) (winners : List ((ℤ × ℤ) × ℕ)) → AreWinners rules winners → AreDeadMarks rules (marks_left (replicate (length rules) true) winners)
dead_marks {D} rules winners w = record {
  count = length_marked (replicate (length rules) true) winners ∙ length-replicate (length rules) true;
  marks = marks;
}
  where
    marks : (i : ℕ) (b : Bool) → slice_get (marks_left (replicate (length rules) true) winners) i ≡ Some b → MatchBool b (IsDead rules i) (Wins rules i)
    marks i true e = λ x a won. stands_nowhere i winners x (still_marked i (replicate (length rules) true) winners e).0 (w.values x a ∙ won)
    marks i false e = elim (no_more_marked i (replicate (length rules) true) winners e) [
      | inl h ↦
          let s : StandsAt i (pos 0) (pos (2 ^ 32 - 1)) winners = stands_at i (pos 0) (pos (2 ^ 32 - 1)) winners w.canonical h in
          let a : IsAddress s.at = record { low = s.low; high = s.high } in
          (s.at, a, sym (w.values s.at a) ∙ s.value)
      | inr h ↦ let wrong : false ≡ true = get_replicate (length rules) i true false h in absurd (cc)
    ]
