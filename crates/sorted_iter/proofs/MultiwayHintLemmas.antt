-- The hint of a many-way union bounds what is to come.
use Rattle.std.proofs.Common.{◌≡◌, ℕ, ◌+◌, ◌-◌, ◌^◌, ◌≤◌, ⊎_elim, Bool, true, false, ltb, ltb-true, ltb-false, min, max, cond, List, [], ◌∷◌, ◌++◌, map, length, flat_map, Option, Some, None, IfSome, All, Contains, refl, sym, ap, ◌∙◌, subst, arith, true≢false, length-append, T, ◌&&◌}
use Rattle.std.specs.Cmp.{IsTotalOrder}
use Rattle.std.specs.Iterator.{Count, IsFinite, size, UpTo}
use Rattle.std.specs.Iterator.SizeHint.{IsWithinCount}
use Rattle.std.specs.List.{AllByRecursion, AllZip}
use Rattle.std.specs.declared.cmp.Ordering.{Ordering}
use Rattle.std.specs.declared.cmp.Ordering.TheVariants.{Equal}
use Rattle.std.proofs.iter.runs.Made.{run, took, seen}
use Rattle.std.proofs.lemmas.Cmp.{tied_itself}
use Rattle.std.proofs.lemmas.List.Elements.{All-head, All-tail, Contains-append_left, Contains-append_right}
use Rattle.std.proofs.lemmas.List.Sums.{sum_by-cons}
use Rattle.ordered_lists.specs.Lists.{has}
use Rattle.ordered_lists.proofs.CountLemmas.{as_long_as_distinct}
use Rattle.ordered_lists.proofs.PlaceLemmas.{all_map}
use Rattle.sorted_iter.specs.declared.multiway.heads.InputHead.{InputHead}
use Rattle.sorted_iter.specs.TwoSidesLemmas.{Through, through-yields}
use Rattle.sorted_iter.specs.MultiwayHeads.{heads_count}
use Rattle.sorted_iter.specs.MultiwaySteps.{multi_steps, IsPassed}
use Rattle.sorted_iter.specs.MultiwayRunLemmas.{Bundle, full, In, Tail, HeadAscends, run-back, has-first, has-more, cons-cases}
use Rattle.sorted_iter.specs.MultiwayHints.{Hint, IsHint, BoundsRuns, greatest_lower, sum_upper, known_sum, fitting, multiway_hint}

-- ---- one input more

pub zip-push : {X Y : Type 0} (R : X → Y → Type 0) (xs : List X) (ys : List Y) (x : X) (y : Y) → AllZip R xs ys → R x y → AllZip R (xs ++ x ∷ []) (ys ++ y ∷ [])
zip-push R [] [] x y h r = (r, tt)
zip-push R [] (b ∷ ys) x y h r = absurd h
zip-push R (a ∷ xs) [] x y h r = absurd h
zip-push R (a ∷ xs) (b ∷ ys) x y h r = (h.0, zip-push R xs ys x y h.1 r)

pub greatest_lower-push : (hints : List Hint) (h : Hint) → greatest_lower (hints ++ h ∷ []) ≡ max (greatest_lower hints) (min (h.0 + 1) (2 ^ 64 - 1))
greatest_lower-push [] h = omega arith
greatest_lower-push (g ∷ hints) h = let e = greatest_lower-push hints h in rw e (omega arith)

sum_joined : (m n k : Option ℕ) → known_sum m (known_sum n k) ≡ known_sum (known_sum m n) k
sum_joined None n k = refl
sum_joined (Some m) None k = refl
sum_joined (Some m) (Some n) None = refl
sum_joined (Some m) (Some n) (Some k) = ap Some (omega arith)

sum_zero : (m : Option ℕ) → known_sum m (Some 0) ≡ known_sum (Some 0) m
sum_zero None = refl
sum_zero (Some m) = ap Some (omega arith)

sum_upper-push : (hints : List Hint) (h : Hint) → sum_upper (hints ++ h ∷ []) ≡ known_sum (sum_upper hints) (known_sum h.1 (Some 1))
sum_upper-push [] h = sum_zero (known_sum h.1 (Some 1))
sum_upper-push (g ∷ hints) h = ap (known_sum (known_sum g.1 (Some 1))) (sum_upper-push hints h) ∙ sum_joined (known_sum g.1 (Some 1)) (sum_upper hints) (known_sum h.1 (Some 1))

-- a sum fits only where each part of it does
fits_first : (m n : Option ℕ) → fitting (known_sum (fitting m) n) ≡ fitting (known_sum m n)
fits_first None n = refl
fits_first (Some m) n = go (ltb m (2 ^ 64)) refl n
  where
    go : (b : Bool) → ltb m (2 ^ 64) ≡ b → (n : Option ℕ) → fitting (known_sum (fitting (Some m)) n) ≡ fitting (known_sum (Some m) n)
    go true e n = rw e refl
    go false e None = rw e refl
    go false e (Some k) = rw e (more (ltb (m + k) (2 ^ 64)) refl)
      where
        more : (b : Bool) → ltb (m + k) (2 ^ 64) ≡ b → None ≡ fitting (Some (m + k))
        more true f = absurd (omega (arith, ltb-false _ _ e, ltb-true _ _ f))
        more false f = rw f refl

pub fitting-push : (hints : List Hint) (h : Hint) → fitting (sum_upper (hints ++ h ∷ [])) ≡ fitting (known_sum (fitting (sum_upper hints)) (known_sum h.1 (Some 1)))
fitting-push hints h = ap fitting (sum_upper-push hints h) ∙ sym (fits_first (sum_upper hints) (known_sum h.1 (Some 1)))

fits : (P : ℕ → Type 0) (n : Option ℕ) → IfSome n P → IfSome (fitting n) P
fits P None h = tt
fits P (Some n) h = go (ltb n (2 ^ 64))
  where
    go : (b : Bool) → IfSome (cond b (Some n) None) P
    go true = h
    go false = tt

-- ---- what std asks of a hint

module _ {S A : Type 0} (left : S → Count) where
  pub lower_within : (hs : List (InputHead S A)) (hints : List Hint) → AllZip (λ h hint. IsHint (left h.rest) hint) hs hints → IsWithinCount (greatest_lower hints) (heads_count left hs)
  lower_within [] [] z f = omega arith
  lower_within [] (hint ∷ hints) z f = absurd z
  lower_within (h ∷ hs) [] z f = absurd z
  lower_within (h ∷ hs) (hint ∷ hints) z f = both (left h.rest).bounded refl (lower_within hs hints z.1) f
    where
      both : (b : Bool) → (left h.rest).bounded ≡ b → IsWithinCount (greatest_lower hints) (heads_count left hs) → IsFinite (heads_count left (h ∷ hs)) → greatest_lower (hint ∷ hints) ≤ size (heads_count left (h ∷ hs))
      both false e rest f = absurd (rw e at f)
      both true e rest f = omega (arith, rest (rw e at f), z.0.0 (rw e tt), sum_by-cons (λ (k : InputHead S A). size (left k.rest) + 1) h hs)

  pub upper_above : (hs : List (InputHead S A)) (hints : List Hint) → AllZip (λ h hint. IsHint (left h.rest) hint) hs hints → IfSome (fitting (sum_upper hints)) (UpTo (heads_count left hs))
  upper_above hs hints z = fits (UpTo (heads_count left hs)) (sum_upper hints) (all hs hints z)
    where
      sum : (h : InputHead S A) (hs : List (InputHead S A)) (m n : Option ℕ) → IfSome m (UpTo (left h.rest)) → IfSome n (UpTo (heads_count left hs)) → IfSome (known_sum (known_sum m (Some 1)) n) (UpTo (heads_count left (h ∷ hs)))
      sum h hs None n p q = tt
      sum h hs (Some m) None p q = tt
      sum h hs (Some m) (Some n) p q = (both (left h.rest).bounded (heads_count left hs).bounded p.0 q.0, omega (arith, p.1, q.1, sum_by-cons (λ (k : InputHead S A). size (left k.rest) + 1) h hs))
        where
          both : (x y : Bool) → T x → T y → T (x && y)
          both true y p q = q
          both false y p q = absurd p

      all : (hs : List (InputHead S A)) (hints : List Hint) → AllZip (λ h hint. IsHint (left h.rest) hint) hs hints → IfSome (sum_upper hints) (UpTo (heads_count left hs))
      all [] [] z = (tt, omega arith)
      all [] (hint ∷ hints) z = absurd z
      all (h ∷ hs) [] z = absurd z
      all (h ∷ hs) (hint ∷ hints) z = sum h hs hint.1 (sum_upper hints) z.0.1 (all hs hints z.1)

-- ---- what is to come

contains-has : {A : Type 0} {cmp : A → A → Ordering} (o : IsTotalOrder cmp) (m : List A) (x : A) → Contains m x → has cmp m x ≡ true
contains-has o [] x c = absurd (omega (arith, c.1))
contains-has {cmp = cmp} o (y ∷ m) x c = ⊎_elim (λ (e : y ≡ x). has-first cmp y x m (subst (λ z. cmp y z ≡ Equal) e (tied_itself o y))) (λ d. has-more cmp y x m (contains-has o m x d)) (cons-cases y x m c)

module _ {S A : Type 0} {cmp : A → A → Ordering} (o : IsTotalOrder cmp) (steps : S → Option A → S → Type 0) where
  Bounded : InputHead S A → Hint → Type 0
  Bounded h hint = BoundsRuns steps h.rest hint

  -- what a hint says of the run behind a head
  behind : (b : Bundle S A) (hint : Hint) → BoundsRuns steps b.0.rest hint → Tail cmp steps b → (b.2 ≡ true → hint.0 ≤ length b.1) × IfSome hint.1 (λ n. length b.1 ≤ n)
  behind b hint h t = h (run steps b.0.rest b.1 b.2 t) (seen _) refl

  lower : (m : List A) (bs : List (Bundle S A)) (hints : List Hint) → AllZip Bounded (map (λ b. b.0) bs) hints → All (Tail cmp steps) bs
      → All (λ b. IsPassed cmp m true (full b) b.2) bs → All (HeadAscends cmp steps) (map (λ b. b.0) bs) → greatest_lower hints ≤ length m
  unfolding Bounded
  lower m [] [] z t p a = omega arith
  lower m [] (hint ∷ hints) z t p a = absurd z
  lower m (b ∷ bs) [] z t p a = absurd z
  lower m (b ∷ bs) (hint ∷ hints) z t p a =
      let rest = lower m bs hints z.1 (All-tail (Tail cmp steps) b bs t) (All-tail (λ b. IsPassed cmp m true (full b) b.2) b bs p) (All-tail (HeadAscends cmp steps) b.0 (map (λ b. b.0) bs) a) in
      let own = All-head (λ b. IsPassed cmp m true (full b) b.2) b bs p in
      let whole : (b.2 ≡ true) × (full b ≡ own.0) = ⊎_elim (λ k. k) (λ k. absurd (true≢false k.0)) own.2 in
      let tail = All-head (Tail cmp steps) b bs t in
      let up = (All-head (HeadAscends cmp steps) b.0 (map (λ b. b.0) bs) a).ascends b.1 tail.0 tail.1 in
      let long : length (full b) ≤ length m = as_long_as_distinct o (full b) m up (subst (AllByRecursion (λ x. has cmp m x ≡ true)) (sym whole.1) own.1) in
      let hinted = (behind b hint z.0 tail).0 whole.0 in
      omega (arith, rest, long, hinted)

  upper : (bs : List (Bundle S A)) (hints : List Hint) → AllZip Bounded (map (λ b. b.0) bs) hints → All (Tail cmp steps) bs → IfSome (sum_upper hints) (λ n. length (flat_map full bs) ≤ n)
  unfolding Bounded
  upper [] [] z t = omega arith
  upper [] (hint ∷ hints) z t = absurd z
  upper (b ∷ bs) [] z t = absurd z
  upper (b ∷ bs) (hint ∷ hints) z t = sum hint.1 (sum_upper hints) (behind b hint z.0 (All-head (Tail cmp steps) b bs t)).1 (upper bs hints z.1 (All-tail (Tail cmp steps) b bs t))
    where
      sum : (m n : Option ℕ) → IfSome m (λ k. length b.1 ≤ k) → IfSome n (λ k. length (flat_map full bs) ≤ k) → IfSome (known_sum (known_sum m (Some 1)) n) (λ k. length (flat_map full (b ∷ bs)) ≤ k)
      sum None n p q = tt
      sum (Some m) None p q = tt
      sum (Some m) (Some n) p q = omega (arith, p, q, length-append (full b) (flat_map full bs))

  flat-contains : (bs : List (Bundle S A)) (b : Bundle S A) (x : A) → Contains bs b → Contains (full b) x → Contains (flat_map full bs) x
  flat-contains [] b x c d = absurd (omega (arith, c.1))
  flat-contains (k ∷ bs) b x c d = ⊎_elim (λ (e : k ≡ b). Contains-append_left (full k) (flat_map full bs) x (subst (λ l. Contains (full l) x) (sym e) d))
      (λ i. Contains-append_right (full k) (flat_map full bs) x (flat-contains bs b x i d)) (cons-cases k b bs c)

  pub hint-bounds : {T : Type 0} (inner : T → List (InputHead S A)) (s : T) (hints : List Hint) → All (HeadAscends cmp steps) (inner s) → AllZip (λ h hint. BoundsRuns steps h.rest hint) (inner s) hints
      → BoundsRuns (Through inner (multi_steps cmp steps)) s (multiway_hint hints)
  unfolding Bounded
  hint-bounds inner s hints a z p on at =
      let t = took p in
      let y = through-yields inner (multi_steps cmp steps) p.items p.from t.0 t.1 in
      let hs = inner p.from in
      let up : All (HeadAscends cmp steps) hs = subst (λ k. All (HeadAscends cmp steps) (inner k)) (sym at) a in
      let zs : AllZip (λ h hint. BoundsRuns steps h.rest hint) hs hints = subst (λ k. AllZip (λ h hint. BoundsRuns steps h.rest hint) (inner k) hints) (sym at) z in
      let r = run-back o steps p.items p.whole hs (inner t.0) y (λ w. (t.2 w).1.0) up in
      let over = subst (λ l. AllZip (λ h hint. BoundsRuns steps h.rest hint) l hints) (sym r.1.are) zs in
      let equal = all_map (In r.0) (λ x. has cmp (flat_map full r.0) x ≡ true) (λ x i. contains-has o (flat_map full r.0) x (flat-contains r.0 i.0 x i.1 i.2)) p.items r.3 in
      let long = as_long_as_distinct o p.items (flat_map full r.0) r.2 equal in (
        λ w. lower p.items r.0 hints over r.1.tails (subst (λ v. All (λ b. IsPassed cmp p.items v (full b) b.2) r.0) w r.1.passed) (subst (All (HeadAscends cmp steps)) (sym r.1.are) up),
        fits (λ n. length p.items ≤ n) (sum_upper hints) (shorter (sum_upper hints) long (upper r.0 hints over r.1.tails)),
      )
    where
      shorter : {k l : ℕ} (n : Option ℕ) → k ≤ l → IfSome n (λ u. l ≤ u) → IfSome n (λ u. k ≤ u)
      shorter None a b = tt
      shorter (Some n) a b = omega (arith, a, b)
