-- From the heads to the inputs.
use Rattle.std.proofs.Common.{◌≡◌, IfSome, slice_get, ℕ, zero, suc, inl, inr, ◌⊎◌, ⊎_elim, Bool, true, List, [], ◌∷◌, ◌++◌, map, Option, Some, None, All, Any, Contains, IsPermutation, flat_map, refl, sym, ap, ◌∙◌, subst, arith, append-nil, append_assoc, true≢false}
use Rattle.std.specs.Cmp.{IsTotalOrder}
use Rattle.std.specs.Iterator.{Drains, AlwaysYields}
use Rattle.std.specs.Iterator.Runs.{Run}
use Rattle.std.specs.List.{AllByRecursion, AllZip}
use Rattle.std.specs.declared.cmp.Ordering.{Ordering}
use Rattle.std.proofs.iter.runs.Made.{run, took}
use Rattle.std.proofs.lemmas.List.Elements.{All-nil, All-cons, All-head, All-tail, All-append}
use Rattle.std.proofs.lemmas.List.Sorted.{All-permutation, IsPermutation-sym}
use Rattle.ordered_lists.proofs.PermutationLemmas.{in_order_of}
use Rattle.ordered_lists.specs.Lists.{has}
use Rattle.ordered_lists.proofs.PlaceLemmas.{all_map}
use Rattle.sorted_iter.specs.Orders.{InOrder, GivesList}
use Rattle.sorted_iter.specs.TwoSidesLemmas.{Through, through-yields}
use Rattle.sorted_iter.specs.declared.multiway.heads.InputHead.{InputHead}
use Rattle.sorted_iter.specs.MultiwayHeads.{Begun}
use Rattle.sorted_iter.specs.MultiwaySteps.{multi_steps, Started, IsPassed, MultiRunsAre, MultiListsAre}
use Rattle.sorted_iter.specs.MultiwayRunLemmas.{Bundle, full, In, in-moved, Tail, HeadAscends, cons-cases, run-back, map-cons}

any-here : {X : Type 0} (P : X → Type 0) (x : X) (xs : List X) → P x → Any P (x ∷ xs)
any-here P x xs p = (0, x, omega arith, refl, p)

any-there : {X : Type 0} (P : X → Type 0) (y : X) (xs : List X) → Any P xs → Any P (y ∷ xs)
any-there P y xs a = (suc a.0, a.1, omega (arith, a.2), a.3, a.4)

any-cases : {X : Type 0} (P : X → Type 0) (y : X) (xs : List X) → Any P (y ∷ xs) → P y ⊎ Any P xs
any-cases P y xs (zero, x, l, e, p) = inl (subst P (sym e) p)
any-cases P y xs (suc k, x, l, e, p) = inr (k, x, omega (arith, l), e, p)

-- one more input, of which one head or none is behind the others
pub started-more : {S A : Type 0} (steps : S → Option A → S → Type 0) (its : List S) (hs : List (InputHead S A)) (it : S) (one : List (InputHead S A)) → Started steps its hs → Begun steps it one
    → Started steps (its ++ it ∷ []) (hs ++ one)
started-more {S} {A} steps its hs it one s b = go its s.0 hs s.1 s.2
  where
    go : (its : List S) (ones : List (List (InputHead S A))) (hs : List (InputHead S A)) → AllZip (Begun steps) its ones → flat_map (λ one. one) ones ≡ hs → Started steps (its ++ it ∷ []) (hs ++ one)
    go [] [] hs z e = (one ∷ [], (b, tt), append-nil one ∙ ap (λ l. l ++ one) e)
    go [] (g ∷ ones) hs z e = absurd z
    go (jt ∷ its) [] hs z e = absurd z
    go (jt ∷ its) (g ∷ ones) hs z e = let r = go its ones (flat_map (λ one. one) ones) z.1 refl in
        (g ∷ r.0, (z.0, r.1), ap (λ l. g ++ l) r.2 ∙ sym (append_assoc g (flat_map (λ one. one) ones) one) ∙ ap (λ l. l ++ one) e)

module _ {S A : Type 0} {cmp : A → A → Ordering} (o : IsTotalOrder cmp) (steps : S → Option A → S → Type 0) where
  begun-ascends : (it : S) (one : List (InputHead S A)) → Begun steps it one → InOrder cmp steps it → All (HeadAscends cmp steps) one
  begun-ascends it one (inl b) a = subst (All (HeadAscends cmp steps)) (sym b.2) (All-nil (HeadAscends cmp steps))
  begun-ascends it one (inr b) a =
      let k : InputHead S A = record { item = b.0; rest = b.1 } in
      let up : HeadAscends cmp steps k = record { ascends = λ xs t y. a.ascends (b.0 ∷ xs) t (b.1, b.2, y) } in
      subst (All (HeadAscends cmp steps)) (sym b.3) (All-cons (HeadAscends cmp steps) k [] up (All-nil (HeadAscends cmp steps)))

  all-ascend : (its : List S) (ones : List (List (InputHead S A))) → AllZip (Begun steps) its ones → AllByRecursion (InOrder cmp steps) its → All (HeadAscends cmp steps) (flat_map (λ one. one) ones)
  all-ascend [] [] z a = All-nil (HeadAscends cmp steps)
  all-ascend [] (one ∷ ones) z a = absurd z
  all-ascend (it ∷ its) [] z a = absurd z
  all-ascend (it ∷ its) (one ∷ ones) z a = All-append (HeadAscends cmp steps) one (flat_map (λ one. one) ones) (begun-ascends it one z.0 a.0) (all-ascend its ones z.1 a.1)

  pub heads-ascend : (its : List S) (hs ks : List (InputHead S A)) → Started steps its hs → IsPermutation hs ks → AllByRecursion (InOrder cmp steps) its → All (HeadAscends cmp steps) ks
  heads-ascend its hs ks st moved asc = All-permutation (HeadAscends cmp steps) hs ks moved (subst (All (HeadAscends cmp steps)) st.2 (all-ascend its st.0 st.1 asc))

  module _ (m : List A) (w : Bool) where
    P : Bundle S A → Type 0
    P b = IsPassed cmp m w (full b) b.2

    Inputs : List S → List (Bundle S A) → Type 0
    Inputs its bs = (qs : List (Run steps)) × AllZip (λ it q. q.from ≡ it) its qs × All (λ q. IsPassed cmp m w q.items q.whole) qs × ((x : A) → In bs x → Any (λ q. Contains q.items x) qs)

    -- the runs of the inputs
    inputs : (its : List S) (ones : List (List (InputHead S A))) (bs : List (Bundle S A)) → AllZip (Begun steps) its ones → map (λ b. b.0) bs ≡ flat_map (λ one. one) ones → All (Tail cmp steps) bs → All P bs → Inputs its bs
    unfolding P Inputs
    inputs [] [] bs z e t p = ([], tt, All-nil (λ q. IsPassed cmp m w q.items q.whole), λ x i. absurd (none bs e i))
      where
        none : (bs : List (Bundle S A)) → map (λ b. b.0) bs ≡ [] → {x : A} → In bs x → ⊥
        none [] e i = omega (arith, i.1.1)
        none (b ∷ bs) e i = absurd cc
    inputs [] (one ∷ ones) bs z e t p = absurd z
    inputs (it ∷ its) [] bs z e t p = absurd z
    inputs (it ∷ its) (one ∷ ones) bs (zs, z) e t p = go (λ cs e t p. inputs its ones cs z e t p) zs
      where
        go : ((cs : List (Bundle S A)) → map (λ b. b.0) cs ≡ flat_map (λ one. one) ones → All (Tail cmp steps) cs → All P cs → Inputs its cs) → Begun steps it one → Inputs (it ∷ its) bs
        go on (inl k) =
            let r = on bs (e ∙ ap (λ l. l ++ flat_map (λ one. one) ones) k.2) t p in
            let q = run steps it [] true (it, refl, λ _. (k.0, k.1)) in
            (q ∷ r.0, (refl, r.1), All-cons (λ q. IsPassed cmp m w q.items q.whole) q r.0 ([], tt, inl (refl, refl)) r.2, λ x i. any-there (λ q. Contains q.items x) q r.0 (r.3 x i))
        go on (inr k) =
            let head : InputHead S A = record { item = k.0; rest = k.1 } in
            let parts = map-cons (λ (b : Bundle S A). b.0) bs head (flat_map (λ one. one) ones) (e ∙ ap (λ l. l ++ flat_map (λ one. one) ones) k.3) in
            let b = parts.0 in
            let rest = parts.1 in
            let ts : All (Tail cmp steps) (b ∷ rest) = subst (All (Tail cmp steps)) parts.2 t in
            let ps : All (λ b. IsPassed cmp m w (full b) b.2) (b ∷ rest) = subst (All (λ b. IsPassed cmp m w (full b) b.2)) parts.2 p in
            let r = on rest parts.4 (All-tail (Tail cmp steps) b rest ts) (All-tail (λ b. IsPassed cmp m w (full b) b.2) b rest ps) in
            let d = All-head (Tail cmp steps) b rest ts in
            let call : steps it (Some b.0.item) b.0.rest = rw parts.3 k.2 in
            let q = run steps it (full b) b.2 (d.0, (b.0.rest, call, d.1), d.2) in (
              q ∷ r.0,
              (refl, r.1),
              All-cons (λ q. IsPassed cmp m w q.items q.whole) q r.0 (All-head (λ b. IsPassed cmp m w (full b) b.2) b rest ps) r.2,
              λ x i. ⊎_elim (λ f. any-here (λ q. Contains q.items x) q r.0 (subst (λ c. Contains (full c) x) (sym f) i.2)) (λ c. any-there (λ q. Contains q.items x) q r.0 (r.3 x (i.0, c, i.2)))
                  (cons-cases b i.0 rest (subst (λ l. Contains l i.0) parts.2 i.1)),
            )

  module _ {T : Type 0} (inner : T → List (InputHead S A)) (its : List S) (hs : List (InputHead S A)) (s : T) (st : Started steps its hs) (moved : IsPermutation hs (inner s)) (asc : AllByRecursion (InOrder cmp steps) its) where
    pub runs-are : MultiRunsAre cmp (Through inner (multi_steps cmp steps)) s steps its
    unfolding P Inputs
    runs-are = record {
      behind = λ p on at.
          let t = took p in
          let y = through-yields inner (multi_steps cmp steps) p.items p.from t.0 t.1 in
          let up = heads-ascend its hs (inner s) st moved asc in
          let r = run-back o steps p.items p.whole (inner p.from) (inner t.0) y (λ w. (t.2 w).1.0) (subst (λ z. All (HeadAscends cmp steps) (inner z)) (sym at) up) in
          let lifted = in_order_of (λ (b : Bundle S A). b.0) r.0 hs (rw (r.1.are ∙ ap inner at) (IsPermutation-sym _ _ moved)) in
          let q = inputs p.items p.whole its st.0 lifted.0 st.1 (lifted.1 ∙ sym st.2) (All-permutation (Tail cmp steps) r.0 lifted.0 lifted.2 r.1.tails) (All-permutation (λ b. IsPassed cmp p.items p.whole (full b) b.2) r.0 lifted.0 lifted.2 r.1.passed) in
          (q.0, q.1, record { ascends = r.2; from_inputs = all_map (In r.0) (λ x. Any (λ q. Contains q.items x) q.0) (λ x i. q.3 x (in-moved r.0 lifted.0 x lifted.2 i)) p.items r.3; passed = q.2 });
    }

-- ---- where the lists of the inputs are known

module _ {S A : Type 0} (steps : S → Option A → S → Type 0) where
  whole-list : (xs l : List A) (s : S) → Drains steps s xs → AlwaysYields steps (λ x. x) s l → xs ≡ l
  whole-list [] [] s d g = refl
  whole-list [] (y ∷ l) s d g = absurd (g.0 d.0 (subst (λ z. steps z None d.0) (sym d.1.1) d.1.2))
  whole-list (x ∷ xs) [] s d g = absurd (g x d.1.1.0 d.1.1.1)
  whole-list (x ∷ xs) (y ∷ l) s d g =
      let k = g.1 x d.1.1.0 d.1.1.1 in
      let r = whole-list xs l d.1.1.0 (d.0, (d.1.0, d.1.1.2, d.1.2)) k.1 in
      (λ i. k.0 i ∷ r i)

  module _ (cmp : A → A → Ordering) (m : List A) where
    wholes : (its : List S) (qs : List (Run steps)) (ls : List (List A)) → AllZip (λ it q. q.from ≡ it) its qs → AllZip (GivesList steps) its ls → All (λ q. IsPassed cmp m true q.items q.whole) qs
        → All (AllByRecursion (λ x. has cmp m x ≡ true)) ls × ((x : A) → Any (λ q. Contains q.items x) qs → Any (λ l. Contains l x) ls)
    wholes [] [] [] z g p = (All-nil (AllByRecursion (λ x. has cmp m x ≡ true)), λ x a. absurd (omega (arith, a.2)))
    wholes [] [] (l ∷ ls) z g p = absurd g
    wholes [] (q ∷ qs) ls z g p = absurd z
    wholes (it ∷ its) [] ls z g p = absurd z
    wholes (it ∷ its) (q ∷ qs) [] z g p = absurd g
    wholes (it ∷ its) (q ∷ qs) (l ∷ ls) z g p =
        let r = wholes its qs ls z.1 g.1 (All-tail (λ q. IsPassed cmp m true q.items q.whole) q qs p) in
        let own = All-head (λ q. IsPassed cmp m true q.items q.whole) q qs p in
        let full : (q.whole ≡ true) × (q.items ≡ own.0) = ⊎_elim (λ k. k) (λ k. absurd (true≢false k.0)) own.2 in
        let t = took q in
        let d : Drains steps q.from q.items = ((t.2 full.0).0, (t.0, t.1, (t.2 full.0).1)) in
        let same : q.items ≡ l = whole-list q.items l it (subst (λ s. Drains steps s q.items) z.0 d) g.0.runs in (
          All-cons (AllByRecursion (λ x. has cmp m x ≡ true)) l ls (subst (AllByRecursion (λ x. has cmp m x ≡ true)) (sym full.1 ∙ same) own.1) r.0,
          λ x a. ⊎_elim (λ c. any-here (λ l. Contains l x) l ls (subst (λ l. Contains l x) same c)) (λ b. any-there (λ l. Contains l x) l ls (r.1 x b)) (any-cases (λ q. Contains q.items x) q qs a),
        )

  pub lists-are : {T : Type 0} {cmp : A → A → Ordering} {ofs : T → Option A → T → Type 0} {s : T} {its : List S} → MultiRunsAre cmp ofs s steps its → MultiListsAre cmp ofs s steps its
  lists-are {cmp = cmp} h = record {
    give = λ ls g p on at w.
        let r = h.behind p on at in
        let k = wholes cmp p.items _ r.0 ls r.1 g (subst (λ b. All (λ q. IsPassed cmp p.items b q.items q.whole) r.0) w r.2.passed) in
        record { ascends = r.2.ascends; from_inputs = all_map (λ x. Any (λ q. Contains q.items x) r.0) (λ x. Any (λ l. Contains l x) ls) k.1 p.items r.2.from_inputs; covers = k.0 };
  }

pub every-all : {A : Type 0} (P : A → Type 0) (xs : List A) → ((k : ℕ) → IfSome (slice_get xs k) P) → AllByRecursion P xs
every-all P [] h = tt
every-all P (x ∷ xs) h = (h 0, every-all P xs (λ k. h (suc k)))
