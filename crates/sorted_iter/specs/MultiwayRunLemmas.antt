-- From the last state of a run back to the first: the runs of the inputs that stand behind it.
use Rattle.std.proofs.Common.{◌≡◌, zero, suc, inl, inr, ◌⊎◌, ⊎_elim, Bool, true, false, List, [], ◌∷◌, ◌++◌, map, slice_index_or, Option, Some, All, Contains, IsPermutation, refl, sym, ap, ◌∙◌, subst, arith, true≢false}
use Rattle.std.specs.Cmp.{IsTotalOrder}
use Rattle.std.specs.Iterator.{Yields, DrainsIf}
use Rattle.std.specs.List.{AllByRecursion}
use Rattle.std.specs.List.Sorted.{IsStrictlySortedBy}
use Rattle.std.specs.Ordering.{is_lt}
use Rattle.std.specs.declared.cmp.Ordering.{Ordering}
use Rattle.std.specs.declared.cmp.Ordering.TheVariants.{Less, Equal, Greater}
use Rattle.std.proofs.lemmas.Cmp.{alike_right, tied_itself}
use Rattle.std.proofs.lemmas.List.Elements.{All-nil, All-cons, All-head, All-tail, All-append, All-weaker, All-contains}
use Rattle.std.proofs.lemmas.List.Sorted.{All-permutation, Contains-permutation, IsPermutation-sym}
use Rattle.ordered_lists.proofs.PermutationLemmas.{in_order_of, of_read}
use Rattle.ordered_lists.specs.Lists.{has}
use Rattle.ordered_lists.proofs.PlaceLemmas.{all_map}
use Rattle.sorted_iter.specs.declared.multiway.heads.InputHead.{InputHead}
use Rattle.sorted_iter.specs.MultiwayHeads.{Begun, TakesLeast}
use Rattle.sorted_iter.specs.MultiwaySteps.{TakesEach, multi_steps, IsPassed}

-- ---- lists

pub here : {X : Type 0} (x : X) (xs : List X) → Contains (x ∷ xs) x
here x xs = (0, omega arith, refl)

pub there : {X : Type 0} (y x : X) (xs : List X) → Contains xs x → Contains (y ∷ xs) x
there y x xs c = (suc c.0, omega (arith, c.1), c.2)

pub cons-cases : {X : Type 0} (y x : X) (xs : List X) → Contains (y ∷ xs) x → (y ≡ x) ⊎ Contains xs x
cons-cases y x xs (zero, l, e) = inl e
cons-cases y x xs (suc k, l, e) = inr (k, omega (arith, l), e)

all-in : {X : Type 0} (P : X → Type 0) (xs : List X) (x : X) → AllByRecursion P xs → Contains xs x → P x
all-in P [] x h c = absurd (omega (arith, c.1))
all-in P (y ∷ xs) x h c = ⊎_elim (λ e. subst P e h.0) (λ d. all-in P xs x h.1 d) (cons-cases y x xs c)

all-last : {X : Type 0} (P : X → Type 0) (xs : List X) (x : X) → AllByRecursion P (xs ++ x ∷ []) → P x
all-last P [] x h = h.0
all-last P (y ∷ xs) x h = all-last P xs x h.1

pub map-cons : {X Y : Type 0} (f : X → Y) (zs : List X) (y : Y) (ys : List Y) → map f zs ≡ y ∷ ys
    → (z : X) × (rest : List X) × (zs ≡ z ∷ rest) × (f z ≡ y) × (map f rest ≡ ys)
map-cons f [] y ys e = absurd cc
map-cons f (z ∷ zs) y ys e = let a : f z ≡ y = cc in let b : map f zs ≡ ys = cc in (z, zs, refl, a, b)

module _ {A : Type 0} (cmp : A → A → Ordering) where
  pub has-first : (x y : A) (m : List A) → cmp x y ≡ Equal → has cmp (x ∷ m) y ≡ true
  has-first x y m e = rw e refl

  pub has-more : (x z : A) (m : List A) → has cmp m z ≡ true → has cmp (x ∷ m) z ≡ true
  has-more x z m h = go (cmp x z) refl
    where
      go : (r : Ordering) → cmp x z ≡ r → has cmp (x ∷ m) z ≡ true
      go Less e = rw e h
      go Equal e = rw e refl
      go Greater e = rw e h

  sorted-nil : IsStrictlySortedBy cmp []
  unfolding IsStrictlySortedBy
  sorted-nil = tt

  sorted-cons : (x : A) (m : List A) → AllByRecursion (λ z. cmp x z ≡ Less) m → IsStrictlySortedBy cmp m → IsStrictlySortedBy cmp (x ∷ m)
  unfolding IsStrictlySortedBy
  sorted-cons x m a s = (a, s)

  sorted-first : (x : A) (m : List A) → IsStrictlySortedBy cmp (x ∷ m) → AllByRecursion (λ z. cmp x z ≡ Less) m
  unfolding IsStrictlySortedBy
  sorted-first x m s = s.0

  sorted-rest : (x : A) (m : List A) → IsStrictlySortedBy cmp (x ∷ m) → IsStrictlySortedBy cmp m
  unfolding IsStrictlySortedBy
  sorted-rest x m s = s.1

-- a head, what calls of the rest of its input gave, and whether they went on to `None`
abbrev pub Bundle : Type 0 → Type 0 → Type 0
Bundle S A = InputHead S A × List A × Bool

abbrev pub full : {S A : Type 0} → Bundle S A → List A
full b = b.0.item ∷ b.1

-- x is one of the items of one of the bundles
abbrev pub In : {S A : Type 0} → List (Bundle S A) → A → Type 0
In {S} {A} bs x = (b : Bundle S A) × Contains bs b × Contains (full b) x

pub in-moved : {S A : Type 0} (bs cs : List (Bundle S A)) (x : A) → IsPermutation bs cs → In bs x → In cs x
in-moved bs cs x p i = (i.0, Contains-permutation bs cs i.0 p i.1, i.2)

module _ {S A : Type 0} (cmp : A → A → Ordering) (steps : S → Option A → S → Type 0) where
  abbrev pub Tail : Bundle S A → Type 0
  Tail b = DrainsIf steps (b.2 ≡ true) b.0.rest b.1

  -- what comes from a head on ascends
  pub record HeadAscends (h : InputHead S A) : Type 0 where
    pub ascends : (xs : List A) (t : S) → Yields steps h.rest xs t → IsStrictlySortedBy cmp (h.item ∷ xs)

  pub record Behind (m : List A) (whole : Bool) (hs : List (InputHead S A)) (bs : List (Bundle S A)) : Type 0 where
    pub are : map (λ b. b.0) bs ≡ hs
    pub tails : All Tail bs
    pub passed : All (λ b. IsPassed cmp m whole (full b) b.2) bs

module _ {S A : Type 0} {cmp : A → A → Ordering} (o : IsTotalOrder cmp) (steps : S → Option A → S → Type 0) where
  -- ---- forward: the heads stay in order

  begun-ascends : (h : InputHead S A) (one : List (InputHead S A)) → Begun steps h.rest one → HeadAscends cmp steps h
      → All (HeadAscends cmp steps) one × All (λ k. cmp h.item k.item ≡ Less) one
  begun-ascends h one (inl b) a = (
    subst (All (HeadAscends cmp steps)) (sym b.2) (All-nil (HeadAscends cmp steps)),
    subst
        (All (λ k. cmp h.item k.item ≡ Less)) (sym b.2) (All-nil (λ k. cmp h.item k.item ≡ Less)),
  )
  begun-ascends h one (inr b) a =
      let k : InputHead S A = record { item = b.0; rest = b.1 } in
      let up : HeadAscends cmp steps k = record {
        ascends = λ xs t y. sorted-rest cmp h.item (b.0 ∷ xs)
            (a.ascends (b.0 ∷ xs) t (b.1, b.2, y));
      } in
      let low : cmp h.item k.item ≡ Less = (sorted-first cmp h.item (b.0 ∷ []) (a.ascends (b.0 ∷ []) b.1 (b.1, b.2, refl))).0 in (
        subst (All (HeadAscends cmp steps)) (sym b.3) (All-cons (HeadAscends cmp steps) k [] up (All-nil (HeadAscends cmp steps))),
        subst (All (λ k. cmp h.item k.item ≡ Less)) (sym b.3) (All-cons (λ k. cmp h.item k.item ≡ Less) k [] low
            (All-nil (λ k. cmp h.item k.item ≡ Less))),
      )

  not_below : (x y z : A) → cmp x y ≡ Equal → is_lt (cmp z y) ≡ false → is_lt (cmp z x) ≡ false
  not_below x y z e n = rw (alike_right o x y z e) n

  not_below_above : (x y z : A) → cmp x y ≡ Equal → cmp y z ≡ Less → is_lt (cmp z x) ≡ false
  not_below_above x y z e l = let f : cmp x z ≡ Less = o.congr x y z e ∙ l in rw (o.antisymm z x, f) refl

  take-forward : (x y : A) (hs ks : List (InputHead S A)) → TakesLeast cmp steps hs y ks → cmp x y ≡ Equal → All (HeadAscends cmp steps) hs
      → All (HeadAscends cmp steps) ks × All (λ k. is_lt (cmp k.item x) ≡ false) ks
  take-forward x y hs ks t e a =
      let h = t.0 in
      let others = t.1 in
      let one = t.2 in
      let moved = All-permutation (HeadAscends cmp steps) hs (h ∷ others) t.3 a in
      let b = begun-ascends h one t.6 (All-head (HeadAscends cmp steps) h others moved) in
      let Q : InputHead S A → Type 0 = λ k. is_lt (cmp k.item x) ≡ false in (
        All-permutation (HeadAscends cmp steps) (one ++ others) ks t.7
            (All-append (HeadAscends cmp steps) one others b.0 (All-tail (HeadAscends cmp steps) h others moved)),
        All-permutation Q (one ++ others) ks t.7 (All-append Q one others
            (All-weaker (λ k. cmp h.item k.item ≡ Less) Q (λ k l. not_below_above x h.item k.item (ap (cmp x) t.4 ∙ e) l) one b.1)
            (All-weaker (λ k. is_lt (cmp k.item y) ≡ false) Q (λ k n. not_below x y k.item e n) others t.5)),
      )

  pub each-forward : (xs : List A) (x y : A) (hs ks : List (InputHead S A)) → TakesEach cmp steps hs (y ∷ xs) ks → cmp x y ≡ Equal
      → AllByRecursion (λ z. cmp x z ≡ Equal) xs → All (HeadAscends cmp steps) hs
      → All (HeadAscends cmp steps) ks × All (λ k. is_lt (cmp k.item x) ≡ false) ks
  each-forward [] x y hs ks e q all a = let t = take-forward x y hs e.0 e.1 q a
      in (subst (All (HeadAscends cmp steps)) e.2 t.0, subst (All (λ k. is_lt (cmp k.item x) ≡ false)) e.2 t.1)
  each-forward (z ∷ xs) x y hs ks e q all a = each-forward xs x z e.0 ks e.2 all.0 all.1 (take-forward x y hs e.0 e.1 q a).0

  -- ---- backward: one item that went out

  take-back : (m : List A) (w : Bool) (x : A) (hs js : List (InputHead S A)) (bs : List (Bundle S A)) → TakesLeast cmp steps hs x js
      → has cmp m x ≡ true → Behind cmp steps m w js bs
      → (cs : List (Bundle S A)) × Behind cmp steps m w hs cs × In cs x × ((z : A) → In bs z → In cs z)
  take-back m w x hs js bs (h, others, one, p, hx, low, begun, q) seen b = finish (rebuilt begun)
    where
      P : Bundle S A → Type 0
      P c = IsPassed cmp m w (full c) c.2

      lifted : (ws : List (Bundle S A)) × (map (λ c. c.0) ws ≡ one ++ others) × IsPermutation bs ws
      lifted = in_order_of (λ c. c.0) bs (one ++ others) (rw b.are (IsPermutation-sym _ _ q))

      Rebuilt : Type 0
      Rebuilt = (vs : List (Bundle S A)) × (map (λ c. c.0) vs ≡ h ∷ others) × All (Tail cmp steps) vs × All P vs × In vs x
          × ((z : A) → In lifted.0 z → In vs z)

      passed-more : (l : List A) (v : Bool) → IsPassed cmp m w l v → IsPassed cmp m w (h.item ∷ l) v
      passed-more l v (front, all, c) = (
        h.item ∷ front,
        (rw hx seen, all),
        ⊎_elim (λ k. inl (k.0, ap (λ t. h.item ∷ t) k.1))
            (λ k. inr (k.0, k.1, k.2, ap (λ t. h.item ∷ t) k.3, k.4)) c,
      )

      rebuilt : Begun steps h.rest one → Rebuilt
      rebuilt (inl k) =
          let ws = lifted.0 in
          let c : Bundle S A = (h, [], true) in
          let ended : Tail cmp steps c = (h.rest, refl, λ _. (k.0, k.1)) in
          let own : P c = (h.item ∷ [], (rw hx seen, tt), inl (refl, refl)) in (
            c ∷ ws,
            ap (λ t. h ∷ t) (lifted.1 ∙ ap (λ t. t ++ others) k.2),
            All-cons (Tail cmp steps) c ws ended (All-permutation (Tail cmp steps) bs ws lifted.2 b.tails),
            All-cons P c ws own (All-permutation P bs ws lifted.2 b.passed),
            (c, here c ws, subst (Contains (h.item ∷ [])) hx (here h.item [])),
            λ z i. (i.0, there c i.0 ws i.1, i.2),
          )
      rebuilt (inr k) =
          let head : InputHead S A = record { item = k.0; rest = k.1 } in
          let parts = map-cons (λ (c : Bundle S A). c.0) lifted.0 head others (lifted.1 ∙ ap (λ t. t ++ others) k.3) in
          let v = parts.0 in
          let vr = parts.1 in
          let ts : All (Tail cmp steps) (v ∷ vr) = subst (All (Tail cmp steps)) parts.2
          (All-permutation (Tail cmp steps) bs lifted.0 lifted.2 b.tails) in
          let ps : All P (v ∷ vr) = subst (All P) parts.2 (All-permutation P bs lifted.0 lifted.2 b.passed) in
          let c : Bundle S A = (h, full v, v.2) in
          let t = All-head (Tail cmp steps) v vr ts in
          let call : steps h.rest (Some v.0.item) v.0.rest = rw parts.3 k.2 in
          let tail : Tail cmp steps c = (t.0, (v.0.rest, call, t.1), t.2) in
          let own : P c = passed-more (full v) v.2 (All-head P v vr ps) in (
            c ∷ vr,
            ap (λ t. h ∷ t) parts.4,
            All-cons (Tail cmp steps) c vr tail (All-tail (Tail cmp steps) v vr ts),
            All-cons P c vr own (All-tail P v vr ps),
            (c, here c vr, subst (Contains (h.item ∷ full v)) hx (here h.item (full v))),
            λ z i. ⊎_elim (λ e. (c, here c vr, there h.item z (full v) (subst (λ d. Contains (full d) z) (sym e) i.2)))
                (λ d. (i.0, there c i.0 vr d, i.2)) (cons-cases v i.0 vr (subst (λ l. Contains l i.0) parts.2 i.1)),
          )

      finish : Rebuilt → (cs : List (Bundle S A)) × Behind cmp steps m w hs cs × In cs x × ((z : A) → In bs z → In cs z)
      finish (vs, e, ts, ps, i, on) =
          let back = in_order_of (λ (c : Bundle S A). c.0) vs hs (rw e (IsPermutation-sym _ _ p)) in (
            back.0,
            record {
              are = back.1;
              tails = All-permutation (Tail cmp steps) vs back.0 back.2 ts;
              passed
                  = All-permutation P vs back.0 back.2 ps;
            },
            in-moved vs back.0 x back.2 i,
            λ z j. in-moved vs back.0 z back.2 (on z (in-moved bs lifted.0 z lifted.2 j)),
          )

  each-back : (xs : List A) (m : List A) (w : Bool) (hs js : List (InputHead S A)) (bs : List (Bundle S A)) → TakesEach cmp steps hs xs js
      → AllByRecursion (λ x. has cmp m x ≡ true) xs → Behind cmp steps m w js bs
      → (cs : List (Bundle S A)) × Behind cmp steps m w hs cs × AllByRecursion (In cs) xs × ((z : A) → In bs z → In cs z)
  each-back [] m w hs js bs e all b = (bs, subst (λ l. Behind cmp steps m w l bs) (sym e) b, tt, λ z i. i)
  each-back (x ∷ xs) m w hs js bs e all b =
      let r = each-back xs m w e.0 js bs e.2 all.1 b in
      let s = take-back m w x hs e.0 r.0 e.1 all.0 r.1 in
      (s.0, s.1, (s.2, all_map (In r.0) (In s.0) s.3 xs r.2), λ z i. s.3 z (r.3 z i))

  -- ---- what comes later is above

  ups : (x : A) (w : Bool) (m : List A) (js : List (InputHead S A)) (bs : List (Bundle S A)) → All (λ k. cmp x k.item ≡ Less) js
      → All (HeadAscends cmp steps) js → Behind cmp steps m w js bs
      → All (λ b. AllByRecursion (λ z. cmp x z ≡ Less) (full b)) bs
  ups x w m js bs up asc b =
      let u = of_read (λ (c : Bundle S A). c.0) (λ k. cmp x k.item ≡ Less) bs (subst (All (λ k. cmp x k.item ≡ Less)) (sym b.are) up) in
      let a = of_read (λ (c : Bundle S A). c.0) (HeadAscends cmp steps) bs (subst (All (HeadAscends cmp steps)) (sym b.are) asc) in
      λ k d l.
      let c = slice_index_or bs k d in
      let t = b.tails k d l in
      let s = (a k d l).ascends c.1 t.0 t.1 in (
        u k d l,
        all_map (λ z. cmp c.0.item z ≡ Less) (λ z. cmp x z ≡ Less) (λ z e. o.trans x c.0.item z (u k d l) e) c.1
            (sorted-first cmp c.0.item c.1 s),
      )

  more : (x : A) (w : Bool) (m : List A) (js : List (InputHead S A)) (bs : List (Bundle S A))
      → All (λ b. AllByRecursion (λ z. cmp x z ≡ Less) (full b)) bs → Behind cmp steps m w js bs → Behind cmp steps (x ∷ m) w js bs
  more x w m js bs up b = record {
    are = b.are;
    tails = b.tails;
    passed = λ k d l.
        let c = slice_index_or bs k d in
        let h = b.passed k d l in (
          h.0,
          all_map (λ z. has cmp m z ≡ true) (λ z. has cmp (x ∷ m) z ≡ true) (λ z e. has-more cmp x z m e) h.0 h.1,
          ⊎_elim (λ e. inl e) (λ e. inr (
            e.0,
            e.1,
            e.2,
            e.3,
            (
              all-last (λ z. cmp x z ≡ Less) h.0 e.2
                  (subst (AllByRecursion (λ z. cmp x z ≡ Less)) e.3 (up k d l)),
              e.4,
            ),
          )) h.2,
        );
  }

  -- ---- a run

  base : (hs : List (InputHead S A)) → (bs : List (Bundle S A)) × Behind cmp steps [] false hs bs
  base [] = ([], record { are = refl; tails = All-nil (Tail cmp steps); passed = All-nil (λ b. IsPassed cmp [] false (full b) b.2) })
  base (h ∷ hs) =
      let r = base hs in
      let c : Bundle S A = (h, [], false) in
      let tail : Tail cmp steps c = (h.rest, refl, λ e. absurd (true≢false (sym e))) in
      let own : IsPassed cmp [] false (full c) false = ([], tt, inr (refl, refl, h.item, refl, tt)) in (
        c ∷ r.0,
        record {
          are = ap (λ t. h ∷ t) r.1.are;
          tails = All-cons (Tail cmp steps) c r.0 tail r.1.tails;
          passed
              = All-cons (λ b. IsPassed cmp [] false (full b) b.2) c r.0 own r.1.passed;
        },
      )

  at_end : (w : Bool) (hs : List (InputHead S A)) → (w ≡ true → hs ≡ []) → (bs : List (Bundle S A)) × Behind cmp steps [] w hs bs
  at_end true hs e = (
    [],
    record {
      are = sym (e refl);
      tails = All-nil (Tail cmp steps);
      passed
          = All-nil (λ b. IsPassed cmp [] true (full b) b.2);
    },
  )
  at_end false hs e = base hs

  pub run-back : (m : List A) (w : Bool) (hs ks : List (InputHead S A)) → Yields (multi_steps cmp steps) hs m ks → (w ≡ true → ks ≡ [])
      → All (HeadAscends cmp steps) hs
      → (bs : List (Bundle S A)) × Behind cmp steps m w hs bs × IsStrictlySortedBy cmp m × AllByRecursion (In bs) m
  run-back [] w hs ks y e a = let r = at_end w hs (λ k. y ∙ e k) in (r.0, r.1, sorted-nil cmp, tt)
  run-back (x ∷ m) w hs ks (js, (xs, each, equal, rise), y) e a =
      let f = each-forward xs x x hs js each (tied_itself o x) equal a in
      let up = rise f.1 in
      let r = run-back m w js ks y e f.0 in
      let u = ups x w m js r.0 up f.0 r.1 in
      let b = more x w m js r.0 u r.1 in
      let s = each-back (x ∷ xs) (x ∷ m) w hs js r.0 each (
        has-first cmp x x m (tied_itself o x),
        all_map (λ z. cmp x z ≡ Equal)
            (λ z. has cmp (x ∷ m) z ≡ true) (λ z q. has-first cmp x z m q) xs equal,
      ) b in
      let later = all_map (In r.0) (λ z. cmp x z ≡ Less) (λ z i. all-in (λ z. cmp x z ≡ Less) (full i.0) z
      (All-contains (λ b. AllByRecursion (λ z. cmp x z ≡ Less) (full b)) r.0 i.0 u i.1) i.2) m r.3 in
      (s.0, s.1, sorted-cons cmp x m later r.2, (s.2.0, all_map (In r.0) (In s.0) s.3 m r.3))
