-- A run of cloned heads, and a run of the heads themselves that is alike.
use Rattle.std.proofs.Common.{◌≡◌, inl, inr, Bool, true, false, List, [], ◌∷◌, ◌++◌, map, Option, Some, None, All, IsPermutation, refl, sym, ap, ◌∙◌, subst, true≢false, T, ◌&&◌}
use Rattle.std.specs.Cmp.{IsTotalOrder}
use Rattle.std.specs.Iterator.{Yields, DrainsIf, Count, IsFinite}
use Rattle.std.specs.Iterator.Runs.{EachRunFrom, SomeRun}
use Rattle.std.specs.List.{AllByRecursion, AllZip}
use Rattle.std.specs.Ordering.{is_lt}
use Rattle.std.specs.declared.cmp.Ordering.{Ordering}
use Rattle.std.specs.declared.cmp.Ordering.TheVariants.{Less, Equal}
use Rattle.std.proofs.iter.runs.Made.{run, took, seen}
use Rattle.std.proofs.lemmas.Cmp.{alike_right}
use Rattle.std.proofs.lemmas.List.Elements.{All-nil, All-cons, All-head, All-tail}
use Rattle.std.proofs.lemmas.List.Sorted.{All-permutation, IsPermutation-sym, IsPermutation-map}
use Rattle.std.specs.List.Sorted.{IsStrictlySortedBy}
use Rattle.ordered_lists.specs.Heaps.{IsHeap}
use Rattle.ordered_lists.proofs.HeapLemmas.{heap_alike}
use Rattle.ordered_lists.proofs.PermutationLemmas.{in_order_of}
use Rattle.sorted_iter.specs.declared.multiway.heads.InputHead.{InputHead}
use Rattle.sorted_iter.specs.MultiwayHeads.{before, can_go, heads_count, Begun, TakesLeast}
use Rattle.sorted_iter.specs.MultiwaySteps.{TakesEach, multi_steps}
use Rattle.sorted_iter.specs.MultiwayRunLemmas.{Bundle, full, Tail, HeadAscends, map-cons}
use Rattle.sorted_iter.specs.MultiwayClones.{AreAlike, ComesAlike, IsHeadClone}

module _ {S A : Type 0} {cmp : A → A → Ordering} (o : IsTotalOrder cmp) (steps : S → Option A → S → Type 0) where
  -- the items of the first list are equal to those of the second
  abbrev Equals : List A → List A → Type 0
  Equals = AllZip (λ x y. cmp x y ≡ Equal)

  -- a bundle of the clones, and one of the heads themselves
  abbrev Pair : Type 0
  Pair = Bundle S A × Bundle S A

  abbrev theirs : List Pair → List (InputHead S A)
  theirs ps = map (λ p. p.1.0) ps

  record Alike (p : Pair) : Type 0 where
    tail : Tail cmp steps p.1
    item : cmp p.1.0.item p.0.0.item ≡ Equal
    items : Equals p.1.1 p.0.1
    whole : p.1.2 ≡ p.0.2

  -- whatever heads are alike to the heads js and to what comes behind these, `Goal` holds of them
  record Sim (js : List (InputHead S A)) (Goal : List (InputHead S A) → Type 0) : Type 0 where
    bundles : List (Bundle S A)
    are : map (λ b. b.0) bundles ≡ js
    tails : All (Tail cmp steps) bundles
    holds : (ps : List Pair) → map (λ p. p.0) ps ≡ bundles → All Alike ps → Goal (theirs ps)

  -- x equal to x', and y to y': they compare alike
  compared : (x y u v : A) → cmp u x ≡ Equal → cmp v y ≡ Equal → cmp u v ≡ cmp x y
  compared x y u v e f = o.congr u x v e ∙ alike_right o v y x f

  Rise : List (InputHead S A) → List (InputHead S A) → Type 0
  Rise js hs = (x u : A) → cmp u x ≡ Equal → (All (λ k. is_lt (cmp k.item x) ≡ false) js → All (λ k. cmp x k.item ≡ Less) js)
      → All (λ k. is_lt (cmp k.item u) ≡ false) hs → All (λ k. cmp u k.item ≡ Less) hs

  pair_items : (ps : List Pair) (P Q : A → Type 0) → ((x u : A) → cmp u x ≡ Equal → P u → Q x) → All Alike ps → All (λ k. P k.item) (theirs ps) → All (λ k. Q k.item) (map (λ b. b.0) (map (λ p. p.0) ps))
  pair_items [] P Q f a h = All-nil (λ k. Q k.item)
  pair_items (p ∷ ps) P Q f a h =
      All-cons (λ k. Q k.item) p.0.0 (map (λ b. b.0) (map (λ p. p.0) ps)) (f p.0.0.item p.1.0.item (All-head Alike p ps a).item (All-head (λ k. P k.item) p.1.0 (theirs ps) h)) (pair_items ps P Q f (All-tail Alike p ps a) (All-tail (λ k. P k.item) p.1.0 (theirs ps) h))

  items_pair : (ps : List Pair) (P Q : A → Type 0) → ((x u : A) → cmp u x ≡ Equal → P x → Q u) → All Alike ps → All (λ k. P k.item) (map (λ b. b.0) (map (λ p. p.0) ps)) → All (λ k. Q k.item) (theirs ps)
  items_pair [] P Q f a h = All-nil (λ k. Q k.item)
  items_pair (p ∷ ps) P Q f a h =
      All-cons (λ k. Q k.item) p.1.0 (theirs ps) (f p.0.0.item p.1.0.item (All-head Alike p ps a).item (All-head (λ k. P k.item) p.0.0 (map (λ b. b.0) (map (λ p. p.0) ps)) h))
      (items_pair ps P Q f (All-tail Alike p ps a) (All-tail (λ k. P k.item) p.0.0 (map (λ b. b.0) (map (λ p. p.0) ps)) h))

  with_rise : (js : List (InputHead S A)) (Goal : List (InputHead S A) → Type 0) → Sim js Goal → Sim js (λ hs. Goal hs × Rise js hs)
  unfolding Rise
  with_rise js Goal s = record {
    bundles = s.bundles;
    are = s.are;
    tails = s.tails;
    holds = λ ps e a. (
      s.holds ps e a,
      λ x u q rise low.
          let ours : map (λ b. b.0) (map (λ p. p.0) ps) ≡ js = ap (map (λ b. b.0)) e ∙ s.are in
          let lows = pair_items ps (λ y. is_lt (cmp y u) ≡ false) (λ y. is_lt (cmp y x) ≡ false) (λ y v f n. ap is_lt (sym (compared y x v u f q)) ∙ n) a low in
          let ups = rise (subst (All (λ k. is_lt (cmp k.item x) ≡ false)) ours lows) in
          items_pair ps (λ y. cmp x y ≡ Less) (λ y. cmp u y ≡ Less) (λ y v f n. compared x y u v q f ∙ n) a (subst (All (λ k. cmp x k.item ≡ Less)) (sym ours) ups),
    );
  }

  -- one item went out
  Took : A → (List (InputHead S A) → Type 0) → List (InputHead S A) → Type 0
  Took x Goal hs = (u : A) × (js : List (InputHead S A)) × TakesLeast cmp steps hs u js × (cmp u x ≡ Equal) × Goal js

  no_items : (xs : List A) → Equals xs [] → xs ≡ []
  no_items [] z = refl
  no_items (x ∷ xs) z = absurd z

  more_items : (xs : List A) (y : A) (ys : List A) → Equals xs (y ∷ ys) → (x : A) × (rest : List A) × (xs ≡ x ∷ rest) × (cmp x y ≡ Equal) × Equals rest ys
  more_items [] y ys z = absurd z
  more_items (x ∷ xs) y ys z = (x, xs, refl, z.0, z.1)

  take_sim : (x : A) (ks js : List (InputHead S A)) (Goal : List (InputHead S A) → Type 0) → TakesLeast cmp steps ks x js → Sim js Goal → Sim ks (Took x Goal)
  unfolding Took
  take_sim x ks js Goal (k, others, one, p, kx, low, begun, q) s = finish (rebuilt begun)
    where
      lifted : (ws : List (Bundle S A)) × (map (λ c. c.0) ws ≡ one ++ others) × IsPermutation s.bundles ws
      lifted = in_order_of (λ c. c.0) s.bundles (one ++ others) (rw s.are (IsPermutation-sym _ _ q))

      -- the bundles of the heads k and others, and the goal for each list of pairs over them
      Rebuilt : Type 0
      Rebuilt = (vs : List (Bundle S A)) × (map (λ c. c.0) vs ≡ k ∷ others) × All (Tail cmp steps) vs
          × ((qs : List Pair) (hs : List (InputHead S A)) → map (λ p. p.0) qs ≡ vs → All Alike qs → IsPermutation hs (theirs qs) → Took x Goal hs)

      -- pairs over what is left, in the order of the bundles of js
      left_goal : (qs : List Pair) → map (λ p. p.0) qs ≡ lifted.0 → All Alike qs → (ps : List Pair) × IsPermutation (theirs qs) (theirs ps) × Goal (theirs ps)
      left_goal qs e a =
          let r = in_order_of (λ (p : Pair). p.0) qs s.bundles (rw e (IsPermutation-sym _ _ lifted.2)) in
          (r.0, IsPermutation-map (λ (p : Pair). p.1.0) qs r.0 r.2, s.holds r.0 r.1 (All-permutation Alike qs r.0 r.2 a))

      lows : (qs : List Pair) (u : A) → map (λ b. b.0) (map (λ p. p.0) qs) ≡ others → cmp u x ≡ Equal → All Alike qs → All (λ h. is_lt (cmp h.item u) ≡ false) (theirs qs)
      lows qs u e f a = items_pair qs (λ y. is_lt (cmp y x) ≡ false) (λ y. is_lt (cmp y u) ≡ false) (λ y v g n. ap is_lt (compared y x v u g f) ∙ n) a (subst (All (λ h. is_lt (cmp h.item x) ≡ false)) (sym e) low)

      rebuilt : Begun steps k.rest one → Rebuilt
      rebuilt (inl b) =
          let ws = lifted.0 in
          let c : Bundle S A = (k, [], true) in
          let ended : Tail cmp steps c = (k.rest, refl, λ _. (b.0, b.1)) in
          let rest : map (λ c. c.0) ws ≡ others = lifted.1 ∙ ap (λ t. t ++ others) b.2 in (
            c ∷ ws,
            ap (λ t. k ∷ t) rest,
            All-cons (Tail cmp steps) c ws ended (All-permutation (Tail cmp steps) s.bundles ws lifted.2 s.tails),
            λ qs hs e a moved.
                let parts = map-cons (λ (p : Pair). p.0) qs c ws e in
                let d = parts.0 in
                let qr = parts.1 in
                let all : All Alike (d ∷ qr) = subst (All Alike) parts.2 a in
                let own = All-head Alike d qr all in
                let none : d.1.1 ≡ [] = no_items d.1.1 (subst (λ l. Equals d.1.1 l) (ap (λ (b : Bundle S A). b.1) parts.3) own.items) in
                let whole : d.1.2 ≡ true = own.whole ∙ ap (λ (b : Bundle S A). b.2) parts.3 in
                let tail = subst (λ l. DrainsIf steps (d.1.2 ≡ true) d.1.0.rest l) none own.tail in
                let end = tail.2 whole in
                let equal : cmp d.1.0.item x ≡ Equal = subst (λ y. cmp d.1.0.item y ≡ Equal) (ap (λ (b : Bundle S A). b.0.item) parts.3 ∙ kx) own.item in
                let goal = left_goal qr parts.4 (All-tail Alike d qr all) in
                let low' = lows qr d.1.0.item (ap (map (λ b. b.0)) parts.4 ∙ rest) equal (All-tail Alike d qr all) in (
                  d.1.0.item,
                  theirs goal.0,
                  (d.1.0, theirs qr, [], subst (λ l. IsPermutation hs (theirs l)) parts.2 moved, refl, low', inl (end.0, subst (λ z. steps z None end.0) (sym tail.1) end.1, refl), goal.1),
                  equal,
                  goal.2,
                ),
          )
      rebuilt (inr b) =
          let head : InputHead S A = record { item = b.0; rest = b.1 } in
          let split = map-cons (λ (c : Bundle S A). c.0) lifted.0 head others (lifted.1 ∙ ap (λ t. t ++ others) b.3) in
          let v = split.0 in
          let vr = split.1 in
          let ts : All (Tail cmp steps) (v ∷ vr) = subst (All (Tail cmp steps)) split.2 (All-permutation (Tail cmp steps) s.bundles lifted.0 lifted.2 s.tails) in
          let c : Bundle S A = (k, full v, v.2) in
          let t = All-head (Tail cmp steps) v vr ts in
          let call : steps k.rest (Some v.0.item) v.0.rest = rw split.3 b.2 in
          let tail : Tail cmp steps c = (t.0, (v.0.rest, call, t.1), t.2) in (
            c ∷ vr,
            ap (λ t. k ∷ t) split.4,
            All-cons (Tail cmp steps) c vr tail (All-tail (Tail cmp steps) v vr ts),
            λ qs hs e a moved.
                let parts = map-cons (λ (p : Pair). p.0) qs c vr e in
                let d = parts.0 in
                let qr = parts.1 in
                let all : All Alike (d ∷ qr) = subst (All Alike) parts.2 a in
                let own = All-head Alike d qr all in
                let next = more_items d.1.1 v.0.item v.1 (subst (λ l. Equals d.1.1 l) (ap (λ (b : Bundle S A). b.1) parts.3) own.items) in
                let tail = subst (λ l. DrainsIf steps (d.1.2 ≡ true) d.1.0.rest l) next.2 own.tail in
                let new : InputHead S A = record { item = next.0; rest = tail.1.0 } in
                let pair : Pair = (v, (new, next.1, d.1.2)) in
                let alike : Alike pair = record {
                  tail = (tail.0, tail.1.2, tail.2);
                  item = next.3;
                  items = next.4;
                  whole = own.whole ∙ ap (λ (b : Bundle S A). b.2) parts.3;
                } in
                let equal : cmp d.1.0.item x ≡ Equal = subst (λ y. cmp d.1.0.item y ≡ Equal) (ap (λ (b : Bundle S A). b.0.item) parts.3 ∙ kx) own.item in
                let rest = All-tail Alike d qr all in
                let goal = left_goal (pair ∷ qr) (ap (λ l. v ∷ l) parts.4 ∙ sym split.2) (All-cons Alike pair qr alike rest) in
                let low' = lows qr d.1.0.item (ap (map (λ b. b.0)) parts.4 ∙ split.4) equal rest in (
                  d.1.0.item,
                  theirs goal.0,
                  (d.1.0, theirs qr, new ∷ [], subst (λ l. IsPermutation hs (theirs l)) parts.2 moved, refl, low', inr (next.0, tail.1.0, tail.1.1, refl), goal.1),
                  equal,
                  goal.2,
                ),
          )

      finish : Rebuilt → Sim ks (Took x Goal)
      finish (vs, e, ts, f) =
          let back = in_order_of (λ (c : Bundle S A). c.0) vs ks (rw e (IsPermutation-sym _ _ p)) in
          record {
            bundles = back.0;
            are = back.1;
            tails = All-permutation (Tail cmp steps) vs back.0 back.2 ts;
            holds = λ ps g a.
                let r = in_order_of (λ (p : Pair). p.0) ps vs (rw g (IsPermutation-sym _ _ back.2)) in
                f r.0 (theirs ps) r.1 (All-permutation Alike ps r.0 r.2 a) (IsPermutation-map (λ (p : Pair). p.1.0) ps r.0 r.2);
          }

  weaker : (js : List (InputHead S A)) (Goal Other : List (InputHead S A) → Type 0) → ((hs : List (InputHead S A)) → Goal hs → Other hs) → Sim js Goal → Sim js Other
  weaker js Goal Other f s = record { bundles = s.bundles; are = s.are; tails = s.tails; holds = λ ps e a. f (theirs ps) (s.holds ps e a) }

  -- items went out, one after the other
  TookEach : List A → (List (InputHead S A) → Type 0) → List (InputHead S A) → Type 0
  TookEach xs Goal hs = (us : List A) × (js : List (InputHead S A)) × TakesEach cmp steps hs us js × Equals us xs × Goal js

  each_sim : (xs : List A) (ks js : List (InputHead S A)) (Goal : List (InputHead S A) → Type 0) → TakesEach cmp steps ks xs js → Sim js Goal → Sim ks (TookEach xs Goal)
  unfolding TookEach Took
  each_sim [] ks js Goal e s = weaker ks Goal (TookEach [] Goal) (λ hs g. ([], hs, refl, tt, g)) (subst (λ l. Sim l Goal) (sym e) s)
  each_sim (x ∷ xs) ks js Goal e s =
      weaker ks (Took x (TookEach xs Goal)) (TookEach (x ∷ xs) Goal) (λ hs t. (t.0 ∷ t.4.0, t.4.1, (t.1, t.2, t.4.2), (t.3, t.4.3), t.4.4)) (take_sim x ks e.0 (TookEach xs Goal) e.1 (each_sim xs e.0 js Goal e.2 s))

  -- a run with equal items
  Runs : List A → Bool → List (InputHead S A) → Type 0
  Runs m w hs = (us : List A) × DrainsIf (multi_steps cmp steps) (w ≡ true) hs us × Equals us m

  all_equal : (x u : A) (xs us : List A) → cmp u x ≡ Equal → Equals us xs → AllByRecursion (λ y. cmp x y ≡ Equal) xs → AllByRecursion (λ v. cmp u v ≡ Equal) us
  all_equal x u xs [] e z a = tt
  all_equal x u [] (v ∷ us) e z a = absurd z
  all_equal x u (y ∷ xs) (v ∷ us) e z a = (compared x y u v e z.0 ∙ a.0, all_equal x u xs us e z.1 a.1)

  first_run : (x : A) (xs m : List A) (w : Bool) (js : List (InputHead S A)) → AllByRecursion (λ y. cmp x y ≡ Equal) xs → (All (λ k. is_lt (cmp k.item x) ≡ false) js → All (λ k. cmp x k.item ≡ Less) js)
      → (hs : List (InputHead S A)) → TookEach (x ∷ xs) (λ gs. Runs m w gs × Rise js gs) hs → Runs (x ∷ m) w hs
  unfolding TookEach Runs Rise
  first_run x xs m w js a rise hs ([], gs, e, z, g) = absurd z
  first_run x xs m w js a rise hs (u ∷ us, gs, e, z, g) =
      let d = g.0.1 in
      (u ∷ g.0.0, (d.0, (gs, (us, e, all_equal x u xs us z.0 z.1 a, g.1 x u z.0 rise), d.1), d.2), (z.0, g.0.2))

  rest_heads : (ks : List (InputHead S A)) → (bs : List (Bundle S A)) × (map (λ b. b.0) bs ≡ ks) × All (Tail cmp steps) bs
  rest_heads [] = ([], refl, All-nil (Tail cmp steps))
  rest_heads (k ∷ ks) =
      let r = rest_heads ks in
      let tail : Tail cmp steps (k, [], false) = (k.rest, refl, λ e. absurd (true≢false (sym e))) in
      ((k, [], false) ∷ r.0, ap (λ l. k ∷ l) r.1, All-cons (Tail cmp steps) (k, [], false) r.0 tail r.2)

  none_left : (ps : List Pair) (bs : List (Bundle S A)) (ks : List (InputHead S A)) → map (λ p. p.0) ps ≡ bs → map (λ b. b.0) bs ≡ ks → ks ≡ [] → theirs ps ≡ []
  none_left [] bs ks e f g = refl
  none_left (p ∷ ps) bs ks e f g = let h : map (λ b. b.0) (map (λ (p : Pair). p.0) (p ∷ ps)) ≡ [] = ap (map (λ b. b.0)) e ∙ f ∙ g in absurd cc

  run_sim : (m : List A) (w : Bool) (ks end : List (InputHead S A)) → Yields (multi_steps cmp steps) ks m end → (w ≡ true → end ≡ []) → Sim ks (Runs m w)
  unfolding Runs
  run_sim [] w ks end y e =
      let r = rest_heads ks in
      record {
        bundles = r.0;
        are = r.1;
        tails = r.2;
        holds = λ ps f a. ([], (theirs ps, refl, λ t. ([], (none_left ps r.0 ks f r.1 (y ∙ e t), refl))), tt);
      }
  run_sim (x ∷ m) w ks end (js, (xs, each, equal, rise), y) e =
      weaker ks (TookEach (x ∷ xs) (λ gs. Runs m w gs × Rise js gs)) (Runs (x ∷ m) w) (first_run x xs m w js equal rise)
      (each_sim (x ∷ xs) ks js (λ gs. Runs m w gs × Rise js gs) each (with_rise js (Runs m w) (run_sim m w js end y e)))

  -- ---- the clones

  module _ (can : S → Type 0) (left : S → Count) where
    -- k is a clone of the head h
    pub record Follows (h k : InputHead S A) : Type 0 where
      pub input : ComesAlike can left cmp steps h.rest k.rest
      pub item : cmp h.item k.item ≡ Equal

    pairs : (hs : List (InputHead S A)) (bs : List (Bundle S A)) → AllZip Follows hs (map (λ b. b.0) bs) → All (Tail cmp steps) bs
        → (ps : List Pair) × (map (λ p. p.0) ps ≡ bs) × (theirs ps ≡ hs) × All Alike ps
    pairs [] [] z t = ([], refl, refl, All-nil Alike)
    pairs [] (b ∷ bs) z t = absurd z
    pairs (h ∷ hs) [] z t = absurd z
    pairs (h ∷ hs) (b ∷ bs) z t =
        let r = pairs hs bs z.1 (All-tail (Tail cmp steps) b bs t) in
        let q = z.0.input.runs (run steps b.0.rest b.1 b.2 (All-head (Tail cmp steps) b bs t)) (seen _) refl in
        let c : Bundle S A = (h, q.0.items, q.0.whole) in
        let own : Alike (b, c) = record {
          tail = subst (λ s. DrainsIf steps (q.0.whole ≡ true) s q.0.items) q.1 (took q.0);
          item = z.0.item;
          items = q.2.items;
          whole = q.2.whole;
        } in
        ((b, c) ∷ r.0, ap (λ l. b ∷ l) r.1, ap (λ l. h ∷ l) r.2, All-cons Alike (b, c) r.0 own r.3)

    -- with each run of clones of heads one of the heads is alike
    pub clones_run : (hs ks : List (InputHead S A)) → AllZip Follows hs ks → EachRunFrom (multi_steps cmp steps) ks (λ p. SomeRun (multi_steps cmp steps) hs (λ q. AreAlike cmp q p))
    unfolding Runs
    clones_run hs ks z p on at =
        let t = subst (λ s. DrainsIf (multi_steps cmp steps) (p.whole ≡ true) s p.items) at (took p) in
        let s = run_sim p.items p.whole ks t.0 t.1 (λ w. (t.2 w).1.0) in
        let r = pairs hs s.bundles (subst (AllZip Follows hs) (sym s.are) z) s.tails in
        let g : Runs p.items p.whole hs = subst (Runs p.items p.whole) r.2 (s.holds r.0 r.1 r.3) in
        (run (multi_steps cmp steps) hs g.0 p.whole g.1, refl, record { items = g.2; whole = refl })

    pub clones_can : (hs ks : List (InputHead S A)) → AllZip Follows hs ks → All (can_go can left) hs → All (can_go can left) ks
    clones_can [] [] z a = a
    clones_can [] (k ∷ ks) z a = absurd z
    clones_can (h ∷ hs) [] z a = absurd z
    clones_can (h ∷ hs) (k ∷ ks) z a =
        let own = All-head (can_go can left) h hs a in
        All-cons (can_go can left) k ks (z.0.input.callable own.0, z.0.input.ends own.1) (clones_can hs ks z.1 (All-tail (can_go can left) h hs a))

    pub clones_end : (hs ks : List (InputHead S A)) → AllZip Follows hs ks → IsFinite (heads_count left hs) → IsFinite (heads_count left ks)
    clones_end [] [] z f = f
    clones_end [] (k ∷ ks) z f = absurd z
    clones_end (h ∷ hs) [] z f = absurd z
    clones_end (h ∷ hs) (k ∷ ks) z f = both (left h.rest).bounded (heads_count left hs).bounded (left k.rest).bounded (heads_count left ks).bounded z.0.input.ends (clones_end hs ks z.1) f
      where
        both : (a b c d : Bool) → (T a → T c) → (T b → T d) → T (a && b) → T (c && d)
        both true true true d f g t = g t
        both true true false d f g t = f tt
        both true false c d f g t = absurd t
        both false b c d f g t = absurd t

    ascends_alike : (us vs : List A) → Equals us vs → IsStrictlySortedBy cmp us → IsStrictlySortedBy cmp vs
    unfolding IsStrictlySortedBy
    ascends_alike [] [] z up = tt
    ascends_alike [] (v ∷ vs) z up = absurd z
    ascends_alike (u ∷ us) [] z up = absurd z
    ascends_alike (u ∷ us) (v ∷ vs) z up = (later us vs z.1 up.0, ascends_alike us vs z.1 up.1)
      where
        later : (us vs : List A) → Equals us vs → AllByRecursion (λ y. cmp u y ≡ Less) us → AllByRecursion (λ y. cmp v y ≡ Less) vs
        later [] [] w a = tt
        later [] (y ∷ ys) w a = absurd w
        later (x ∷ xs) [] w a = absurd w
        later (x ∷ xs) (y ∷ ys) w a = (sym (compared v y u x z.0 w.0) ∙ a.0, later xs ys w.1 a.1)

    pub clones_ascend : (hs ks : List (InputHead S A)) → AllZip Follows hs ks → All (HeadAscends cmp steps) hs → All (HeadAscends cmp steps) ks
    clones_ascend [] [] z a = a
    clones_ascend [] (k ∷ ks) z a = absurd z
    clones_ascend (h ∷ hs) [] z a = absurd z
    clones_ascend (h ∷ hs) (k ∷ ks) z a =
        let own = All-head (HeadAscends cmp steps) h hs a in
        let up : HeadAscends cmp steps k = record {
          ascends = λ xs t y.
              let q = z.0.input.runs (run steps k.rest xs false (t, y, λ e. absurd (true≢false (sym e)))) (seen _) refl in
              let d = subst (λ s. DrainsIf steps (q.0.whole ≡ true) s q.0.items) q.1 (took q.0) in
              ascends_alike (h.item ∷ q.0.items) (k.item ∷ xs) (z.0.item, q.2.items) (own.ascends q.0.items d.0 d.1);
        } in
        All-cons (HeadAscends cmp steps) k ks up (clones_ascend hs ks z.1 (All-tail (HeadAscends cmp steps) h hs a))

    pub clones_come_alike : (hs ks : List (InputHead S A)) → AllZip Follows hs ks → ComesAlike (λ l. All (can_go can left) l) (heads_count left) cmp (multi_steps cmp steps) hs ks
    clones_come_alike hs ks z = record { callable = clones_can hs ks z; ends = clones_end hs ks z; runs = clones_run hs ks z }

    module _ (is_input_clone : S → S → Type 0) (is_item_clone : A → A → Type 0) (inputs : (s t : S) → is_input_clone s t → ComesAlike can left cmp steps s t) (items : (x y : A) → is_item_clone x y → cmp x y ≡ Equal) where
      pub all_follow : (hs ks : List (InputHead S A)) → AllZip (IsHeadClone is_input_clone is_item_clone) hs ks → AllZip Follows hs ks
      all_follow [] [] z = tt
      all_follow [] (k ∷ ks) z = absurd z
      all_follow (h ∷ hs) [] z = absurd z
      all_follow (h ∷ hs) (k ∷ ks) z = (record { input = inputs h.rest k.rest z.0.input; item = items h.item k.item z.0.item }, all_follow hs ks z.1)

      -- clones stand in order as the heads do
      pub clones_heap : (hs ks : List (InputHead S A)) → AllZip (IsHeadClone is_input_clone is_item_clone) hs ks → IsHeap (before cmp) hs → IsHeap (before cmp) ks
      clones_heap hs ks z heap = heap_alike hs ks z (λ a b c d x y. ap is_lt (sym (compared c.item d.item a.item b.item (items a.item c.item x.item) (items b.item d.item y.item)))) heap
