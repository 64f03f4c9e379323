-- The calls of a stored closure along runs, and the laws of the mark of the streams that keep one.
use Rattle.std.proofs.Common.{◌≡◌, ℕ, suc, zero, inl, inr, List, [], ◌∷◌, ◌++◌, Option, Some, None, append-nil, refl, sym, ap, subst, ◌∙◌}
use Rattle.std.specs.Fn.{Mut, Called, Takes}
use Rattle.std.specs.Iterator.{Yields, YieldsThen}
use Rattle.std.specs.List.{AllByRecursion, FoldsTo}
use Rattle.std.specs.List.Sorted.{IsStrictlySortedBy}
use Rattle.std.specs.declared.cmp.Ordering.{Ordering}
use Rattle.std.specs.declared.cmp.Ordering.TheVariants.{Less}
use Rattle.ordered_lists.specs.Joins.{keys}
use Rattle.ordered_lists.specs.Lists.{by_key}
use Rattle.sorted_iter.specs.Orders.{InOrder, Rests}
use Rattle.sorted_pairs.specs.declared.map_values.MapValues.{MapValues}
use Rattle.sorted_pairs.specs.declared.filter_map_values.FilterMapValues.{FilterMapValues}
use Rattle.sorted_pairs.specs.Calls.{MayBeCalled, CallsAlong, values, revalued, kept, IsSubsequence}
use Rattle.sorted_pairs.specs.ValueStreams.{map_values_source, map_values_closure, map_values_steps, filter_map_values_source, filter_map_values_closure, filter_map_values_steps, MapsTaken, CallsInTurn, AsksInTurn, EitherEnd, CallsFromEitherEnd}

-- after a call on the value of a pair that came, the closure may be called on what is still to come
pub called-on : {S K V R F : Type 0} (steps : S → Option (K × V) → S → Type 0) (g : Mut F (V × Unit {0}) R) (s t : S) (p : K × V) (f h : F)
    (r : R) → MayBeCalled steps g s f → steps s (Some p) t → Called g f (p.1, tt) r h → MayBeCalled steps g t h
called-on steps g s t p f h r m k c = record { at = λ xs u q x v y o n. m.at (p ∷ xs) u q x v (t, k, y) (h, (r, c), o) n }

-- the closure may be called on the pair that comes next
pub called-first : {S K V R F : Type 0} (steps : S → Option (K × V) → S → Type 0) (g : Mut F (V × Unit {0}) R) (s t : S) (p : K × V) (f : F)
    → MayBeCalled steps g s f → steps s (Some p) t → Takes g f (p.1, tt)
called-first steps g s t p f m k = m.at [] s f p t refl refl k

yields-append : {S A : Type 0} (steps : S → Option A → S → Type 0) (xs ys : List A) (s t u : S) → Yields steps s xs t → Yields steps t ys u
    → Yields steps s (xs ++ ys) u
yields-append steps [] ys s t u a b = subst (λ z. Yields steps z ys u) (sym a) b
yields-append steps (x ∷ xs) ys s t u a b = (a.0, a.1, yields-append steps xs ys a.0 t u a.2 b)

-- ---- keys

-- a subsequence of a list is one of a longer list
passed : {A : Type 0} (y : A) (xs ys : List A) → IsSubsequence xs ys → IsSubsequence xs (y ∷ ys)
passed y [] ys h = tt
passed y (x ∷ xs) ys h = (y ∷ h.0, h.1, ap (λ l. y ∷ l) h.2, h.3)

module _ {K V W : Type 0} where
  -- as many answers as pairs
  same-keys : {F : Type 0} (g : Mut F (V × Unit {0}) W) (ps : List (K × V)) (ws : List W) (f h : F) → CallsAlong g f (values ps) ws h
      → keys (revalued ps ws) ≡ keys ps
  same-keys g [] ws f h c = refl
  same-keys g (p ∷ ps) [] f h c = absurd c
  same-keys g (p ∷ ps) (w ∷ ws) f h c = ap (λ l. p.0 ∷ l) (same-keys g ps ws c.0 h c.2)

  some-keys : (ps : List (K × V)) (rs : List (Option W)) → IsSubsequence (keys (kept ps rs)) (keys ps)
  some-keys [] rs = tt
  some-keys (p ∷ ps) [] = tt
  some-keys (p ∷ ps) (None ∷ rs) = passed p.0 (keys (kept ps rs)) (keys ps) (some-keys ps rs)
  some-keys (p ∷ ps) (Some w ∷ rs) = ([], keys ps, refl, some-keys ps rs)

-- ---- the calls of `map_values`

module _ {S K V W F : Type 0} (steps : S → Option (K × V) → S → Type 0) (g : Mut F (V × Unit {0}) W) where
  calls : (qs : List (K × W)) (s t : MapValues S F) → Yields (map_values_steps steps g) s qs t
      → (ps : List (K × V)) × (ws : List W) × Yields steps (map_values_source s) ps (map_values_source t)
      × CallsAlong g (map_values_closure s) (values ps) ws (map_values_closure t) × (qs ≡ revalued ps ws)
  calls [] s t e = ([], [], ap (λ k. map_values_source k) e, ap (λ k. map_values_closure k) e, refl)
  calls (q ∷ qs) s t e =
      let m = calls qs e.0 t e.2 in
      ((q.0, e.1.0) ∷ m.0, q.1 ∷ m.1, (map_values_source e.0, e.1.1, m.2), (map_values_closure e.0, e.1.2, m.3), ap (λ l. q ∷ l) m.4)

  maps-taken : (qs : List (K × W)) (s t : MapValues S F) → Yields (map_values_steps steps g) s qs t
      → MapsTaken g (map_values_closure s) (map_values_closure t) (λ ps. Yields steps (map_values_source s) ps (map_values_source t)) qs
  maps-taken qs s t e =
      let m = calls qs s t e in
      record {
        taken = m.0;
        took = m.2;
        answers = m.1;
        called = m.3;
        gave = m.4;
        same_keys
            = ap keys m.4 ∙ same-keys g m.0 m.1 (map_values_closure s) (map_values_closure t) m.3;
      }

  pub calls-in_turn : (s : MapValues S F) → CallsInTurn steps g s (map_values_source s) (map_values_closure s)
  calls-in_turn s = record {
    after = λ qs t e. maps-taken qs s t e;
    at_end = λ qs t e.
        let m = maps-taken qs s e.0 e.1 in
        record {
          taken = m.taken;
          took = (map_values_source e.0, m.took, e.2.0);
          answers = m.answers;
          called = subst (CallsAlong g (map_values_closure s) (values m.taken) m.answers) (sym e.2.1) m.called;
          gave = m.gave;
          same_keys = m.same_keys;
        };
  }

module _ {S K V W F : Type 0} (fronts backs : S → Option (K × V) → S → Type 0) (g : Mut F (V × Unit {0}) W) where
  one-end : (s t : MapValues S F) (q : K × W) → EitherEnd (map_values_steps fronts g) (map_values_steps backs g) s (Some q) t
      → map_values_steps (EitherEnd fronts backs) g s (Some q) t
  one-end s t q (inl e) = (e.0, inl e.1, e.2)
  one-end s t q (inr e) = (e.0, inr e.1, e.2)

  either-yields : (qs : List (K × W)) (s t : MapValues S F) → Yields (EitherEnd (map_values_steps fronts g) (map_values_steps backs g)) s qs
      t → Yields (map_values_steps (EitherEnd fronts backs) g) s qs t
  either-yields [] s t e = e
  either-yields (q ∷ qs) s t e = (e.0, one-end s e.0 q e.1, either-yields qs e.0 t e.2)

  pub calls-from_either_end : (s : MapValues S F) → CallsFromEitherEnd fronts backs g s
  calls-from_either_end s = record { after = λ qs t e. maps-taken (EitherEnd fronts backs) g qs s t (either-yields qs s t e) }

-- ---- the calls of `filter_map_values`

module _ {K V W F : Type 0} (g : Mut F (V × Unit {0}) (Option W)) where
  -- a pair on which the closure answers `None`, from a to b
  abbrev pub PassesOver : F → K × V → F → Type 0
  PassesOver a p b = Called g a (p.1, tt) None b

  -- pairs that were passed over, and then others on which the closure was called
  passed-then : (ps : List (K × V)) (f e h : F) (others : List (K × V)) (rs : List (Option W)) → FoldsTo PassesOver f ps e
      → CallsAlong g e (values others) rs h
      → (all : List (Option W)) × CallsAlong g f (values (ps ++ others)) all h × (kept (ps ++ others) all ≡ kept others rs)
  passed-then [] f e h others rs p c = (rs, subst (λ z. CallsAlong g z (values others) rs h) (sym p) c, refl)
  passed-then (q ∷ ps) f e h others rs p c = let r = passed-then ps p.0 e h others rs p.2 c in (None ∷ r.0, (p.0, p.1, r.1), r.2)

  -- calls on the values of ps, and then on those of others
  calls-append : (ps : List (K × V)) (f e h : F) (others : List (K × V)) (rs os : List (Option W)) → CallsAlong g f (values ps) rs e
      → CallsAlong g e (values others) os h
      → (all : List (Option W)) × CallsAlong g f (values (ps ++ others)) all h × (kept (ps ++ others) all ≡ kept ps rs ++ kept others os)
  calls-append [] f e h others [] os a b = (os, subst (λ z. CallsAlong g z (values others) os h) (sym a) b, refl)
  calls-append [] f e h others (r ∷ rs) os a b = absurd a
  calls-append (p ∷ ps) f e h others [] os a b = absurd a
  calls-append (p ∷ ps) f e h others (None ∷ rs) os a b = let r = calls-append ps a.0 e h others rs os a.2 b
      in (None ∷ r.0, (a.0, a.1, r.1), r.2)
  calls-append (p ∷ ps) f e h others (Some w ∷ rs) os a b = let r = calls-append ps a.0 e h others rs os a.2 b
      in (Some w ∷ r.0, (a.0, a.1, r.1), ap (λ l. (p.0, w) ∷ l) r.2)

  module _ {S : Type 0} (steps : S → Option (K × V) → S → Type 0) where
    asks : (qs : List (K × W)) (s t : FilterMapValues S F) → Yields (filter_map_values_steps steps g) s qs t
        → (ps : List (K × V)) × (rs : List (Option W)) × Yields steps (filter_map_values_source s) ps (filter_map_values_source t)
        × CallsAlong g (filter_map_values_closure s) (values ps) rs (filter_map_values_closure t) × (qs ≡ kept ps rs)
    asks [] s t e = ([], [], ap (λ k. filter_map_values_source k) e, ap (λ k. filter_map_values_closure k) e, refl)
    asks (q ∷ qs) s t (u, (ps, f, over, (v, took, call)), rest) =
        let m = asks qs u t rest in
        let others = (q.0, v) ∷ m.0 in
        let one = yields-append steps ps others (filter_map_values_source s) took.0 (filter_map_values_source t) took.1
        (filter_map_values_source u, took.2, m.2) in
        let a = passed-then ps (filter_map_values_closure s) f (filter_map_values_closure t) others (Some q.1 ∷ m.1) over
        (filter_map_values_closure u, call, m.3) in
        (ps ++ others, a.0, one, a.1, ap (λ l. q ∷ l) m.4 ∙ sym a.2)

    pub asks-in_turn : (s : FilterMapValues S F) → AsksInTurn steps g s (filter_map_values_source s) (filter_map_values_closure s)
    asks-in_turn s = record {
      after = λ qs t e. let m = asks qs s t e in record {
        taken = m.0;
        took = m.2;
        answers = m.1;
        called = m.3;
        gave = m.4;
        some_keys
            = subst (λ l. IsSubsequence (keys l) (keys m.0)) (sym m.4) (some-keys m.0 m.1);
      };
      at_end = λ qs t e.
          let m = asks qs s e.0 e.1 in
          let l = e.2.3.0 in
          let all = yields-append steps m.0 e.2.0 (filter_map_values_source s) (filter_map_values_source e.0) l.0 m.2 l.1 in
          let last : CallsAlong g e.2.1 (values {K = K} []) [] (filter_map_values_closure t) = sym e.2.3.1 in
          let a = passed-then e.2.0 (filter_map_values_closure e.0) e.2.1 (filter_map_values_closure t) [] [] e.2.2 last in
          let b = calls-append m.0 (filter_map_values_closure s) (filter_map_values_closure e.0) (filter_map_values_closure t)
          (e.2.0 ++ []) m.1 a.0 m.3 a.1 in
          let flat : m.0 ++ (e.2.0 ++ []) ≡ m.0 ++ e.2.0 = ap (λ l. m.0 ++ l) (append-nil e.2.0) in
          let gave : qs ≡ kept (m.0 ++ e.2.0) b.0 = m.4 ∙ sym (append-nil (kept m.0 m.1)) ∙ ap (λ l. kept m.0 m.1 ++ l)
          (sym a.2) ∙ sym b.2 ∙ ap (λ z. kept z b.0) flat in
          record {
            taken = m.0 ++ e.2.0;
            took = (l.0, all, l.2);
            answers = b.0;
            called = subst (λ z. CallsAlong g (filter_map_values_closure s) (values z) b.0 (filter_map_values_closure t)) flat b.1;
            gave = gave;
            some_keys = subst (λ l. IsSubsequence (keys l) (keys (m.0 ++ e.2.0))) (sym gave) (some-keys (m.0 ++ e.2.0) b.0);
          };
    }

    -- one more pair was passed over
    pub passes-more : (ps : List (K × V)) (s t u : S) (f e h : F) (p : K × V) → FoldsTo PassesOver f ps e → Yields steps s ps t
        → steps t (Some p) u → PassesOver e p h → FoldsTo PassesOver f (ps ++ p ∷ []) h × Yields steps s (ps ++ p ∷ []) u
    passes-more [] s t u f e h p a y k c = (
      (h, subst (λ z. PassesOver z p h) (sym a) c, refl),
      (u, subst (λ z. steps z (Some p) u) (sym y) k, refl),
    )
    passes-more (q ∷ ps) s t u f e h p a y k c = let r = passes-more ps y.0 t u a.0 e h p a.2 y.2 k c in ((a.0, a.1, r.0), (y.0, y.1, r.1))

-- ---- the marks

module _ {K V W : Type 0} (cmp : K → K → Ordering) where
  all-revalued : (k : K) (ps : List (K × V)) (ws : List W) → AllByRecursion (λ p. cmp k p.0 ≡ Less) ps
      → AllByRecursion (λ q. cmp k q.0 ≡ Less) (revalued ps ws)
  all-revalued k [] ws a = tt
  all-revalued k (p ∷ ps) [] a = tt
  all-revalued k (p ∷ ps) (w ∷ ws) a = (a.0, all-revalued k ps ws a.1)

  ascends-revalued : (ps : List (K × V)) (ws : List W) → IsStrictlySortedBy (by_key cmp) ps
      → IsStrictlySortedBy (by_key cmp) (revalued ps ws)
  unfolding IsStrictlySortedBy
  ascends-revalued [] ws a = tt
  ascends-revalued (p ∷ ps) [] a = tt
  ascends-revalued (p ∷ ps) (w ∷ ws) a = (all-revalued p.0 ps ws a.0, ascends-revalued ps ws a.1)

  all-kept : (k : K) (ps : List (K × V)) (rs : List (Option W)) → AllByRecursion (λ p. cmp k p.0 ≡ Less) ps
      → AllByRecursion (λ q. cmp k q.0 ≡ Less) (kept ps rs)
  all-kept k [] rs a = tt
  all-kept k (p ∷ ps) [] a = tt
  all-kept k (p ∷ ps) (None ∷ rs) a = all-kept k ps rs a.1
  all-kept k (p ∷ ps) (Some w ∷ rs) a = (a.0, all-kept k ps rs a.1)

  ascends-kept : (ps : List (K × V)) (rs : List (Option W)) → IsStrictlySortedBy (by_key cmp) ps
      → IsStrictlySortedBy (by_key cmp) (kept ps rs)
  unfolding IsStrictlySortedBy
  ascends-kept [] rs a = tt
  ascends-kept (p ∷ ps) [] a = tt
  ascends-kept (p ∷ ps) (None ∷ rs) a = ascends-kept ps rs a.1
  ascends-kept (p ∷ ps) (Some w ∷ rs) a = (all-kept p.0 ps rs a.0, ascends-kept ps rs a.1)

module _ {S A : Type 0} (steps : S → Option A → S → Type 0) where
  -- once `None` has come no call gives an item
  abbrev Over : S → Type 0
  Over s = (n : ℕ) (u : S) (x : A) (v : S) → Rests steps n s u → steps u (Some x) v → ⊥

  over-some : (xs : List A) (s t : S) (x : A) → Over s → YieldsThen steps s xs (Some x) t → ⊥
  over-some [] s t x h e = h zero e.0 x t e.1 e.2
  over-some (y ∷ xs) s t x h e = h zero s y e.1.0 refl e.1.1

  over-none : (xs : List A) (s t : S) → Over s → YieldsThen steps s xs None t → Over t
  over-none [] s t h e = λ n u x v r k. h (suc n) u x v (t, subst (λ z. steps z None t) (sym e.1) e.2, r) k
  over-none (y ∷ xs) s t h e = absurd (h zero s y e.1.0 refl e.1.1)

  in-yields : (In : S → Type 0) → ((s t : S) (r : Option A) → In s → steps s r t → In t) → (xs : List A) (s t : S) → In s
      → Yields steps s xs t → In t
  in-yields In goes [] s t h e = subst In e h
  in-yields In goes (x ∷ xs) s t h e = in-yields In goes xs e.0 t (goes s e.0 (Some x) h e.1) e.2

module _ {S K V W F : Type 0} (steps : S → Option (K × V) → S → Type 0) (cmp : K → K → Ordering) where
  module _ (g : Mut F (V × Unit {0}) W) where
    rests : (n : ℕ) (s t : MapValues S F) → Rests (map_values_steps steps g) n s t
        → Rests steps n (map_values_source s) (map_values_source t)
    rests zero s t e = ap (λ k. map_values_source k) e
    rests (suc n) s t e = (map_values_source e.0, e.1.0, rests n e.0 t e.2)

    pub map_values-in_order : (s : MapValues S F) → InOrder (by_key cmp) steps (map_values_source s)
        → InOrder (by_key cmp) (map_values_steps steps g) s
    map_values-in_order s h = record {
      ascends = λ qs t e. let m = maps-taken steps g qs s t e in subst (IsStrictlySortedBy (by_key cmp)) (sym m.gave)
          (ascends-revalued cmp m.taken m.answers (h.ascends m.taken (map_values_source t) m.took));
      stays_ended = λ qs t n u q v e f k.
          let m = maps-taken steps g qs s e.0 e.1 in
          h.stays_ended m.taken (map_values_source t) n (map_values_source u) (q.0, k.0) (map_values_source v)
          (map_values_source e.0, m.took, e.2.0) (rests n t u f) k.1;
    }

  module _ (g : Mut F (V × Unit {0}) (Option W)) where
    over-rests : (n : ℕ) (s t : FilterMapValues S F) → Over steps (filter_map_values_source s)
        → Rests (filter_map_values_steps steps g) n s t → Over steps (filter_map_values_source t)
    over-rests zero s t h e = subst (λ z. Over steps (filter_map_values_source z)) e h
    over-rests (suc n) s t h e = over-rests n e.0 t (over-none steps e.1.0 (filter_map_values_source s)
        (filter_map_values_source e.0) h e.1.3.0) e.2

    pub filter_map_values-in_order : (s : FilterMapValues S F) → InOrder (by_key cmp) steps (filter_map_values_source s)
        → InOrder (by_key cmp) (filter_map_values_steps steps g) s
    filter_map_values-in_order s h = record {
      ascends = λ qs t e. let m = asks g steps qs s t e in subst (IsStrictlySortedBy (by_key cmp)) (sym m.4)
          (ascends-kept cmp m.0 m.1 (h.ascends m.0 (filter_map_values_source t) m.2));
      stays_ended = λ qs t n u q v e f k.
          let m = asks g steps qs s e.0 e.1 in
          let l = e.2.3.0 in
          let all = yields-append steps m.0 e.2.0 (filter_map_values_source s) (filter_map_values_source e.0) l.0 m.2 l.1 in
          let over : Over steps (filter_map_values_source t) = λ n u x v r k. h.stays_ended (m.0 ++ e.2.0)
          (filter_map_values_source t) n u x v (l.0, all, l.2) r k in
          over-some steps k.0 (filter_map_values_source u) (filter_map_values_source v) (q.0, k.3.0) (over-rests n t u over f) k.3.1;
    }

module _ {S K V W F : Type 0} (steps : S → Option (K × V) → S → Type 0) (In : S → Type 0) (goes : (s t : S) (r : Option (K × V)) → In s
    → steps s r t → In t) where
  pub map_values-goes_on : (g : Mut F (V × Unit {0}) W) (s t : MapValues S F) (r : Option (K × W)) → In (map_values_source s)
      → map_values_steps steps g s r t → In (map_values_source t)
  map_values-goes_on g s t None h e = goes (map_values_source s) (map_values_source t) None h e.0
  map_values-goes_on g s t (Some q) h e = goes (map_values_source s) (map_values_source t) (Some (q.0, e.0)) h e.1

  pub filter_map_values-goes_on : (g : Mut F (V × Unit {0}) (Option W)) (s t : FilterMapValues S F) (r : Option (K × W))
      → In (filter_map_values_source s) → filter_map_values_steps steps g s r t → In (filter_map_values_source t)
  filter_map_values-goes_on g s t None h e =
      let l = e.3.0 in
      goes l.0 (filter_map_values_source t) None (in-yields steps In goes e.0 (filter_map_values_source s) l.0 h l.1) l.2
  filter_map_values-goes_on g s t (Some q) h e =
      let l = e.3.1 in
      goes l.0 (filter_map_values_source t) (Some (q.0, e.3.0)) (in-yields steps In goes e.0 (filter_map_values_source s) l.0 h l.1) l.2
