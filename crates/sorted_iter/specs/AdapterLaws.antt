-- The laws of adapters: what they give is what their source gives, with items passed over.
use Rattle.std.proofs.Common.{◌≡◌, ◌⊎◌, inl, inr, ℕ, suc, zero, ◌+◌, ◌≤◌, List, [], ◌∷◌, ◌++◌, length, Option, Some, None, refl, sym, ap, subst, ◌∙◌, length-append, arith}
use Rattle.std.specs.Prelude.{⊤}
use Rattle.std.specs.Iterator.{Yields, YieldsThen}
use Rattle.std.specs.List.{AllByRecursion}
use Rattle.std.specs.List.Sorted.{IsStrictlySortedBy}
use Rattle.std.specs.declared.cmp.Ordering.{Ordering}
use Rattle.std.specs.declared.cmp.Ordering.TheVariants.{Less}
use Rattle.sorted_iter.specs.GoesOn.{ascends-back}
use Rattle.sorted_iter.specs.Orders.{Rests, InOrder, AtMostOne}

-- calls from s answered rs and led to t
abbrev pub Calls : {S A : Type 0} → (S → Option A → S → Type 0) → S → List (Option A) → S → Type 0
Calls steps s [] t = s ≡ t
Calls {S} steps s (r ∷ rs) t = (j : S) × steps s r j × Calls steps j rs t

-- what each call keeps, any calls keep
pub calls-keep : {S A : Type 0} (steps : S → Option A → S → Type 0) (P : S → Type 0) → ((s t : S) (r : Option A) → P s → steps s r t → P t)
    → (rs : List (Option A)) (s t : S) → P s → Calls steps s rs t → P t
calls-keep steps P keeps [] s t h e = subst P e h
calls-keep steps P keeps (r ∷ rs) s t h e = calls-keep steps P keeps rs e.0 t (keeps s e.0 r h e.1) e.2

pub calls-of_items : {S A : Type 0} (steps : S → Option A → S → Type 0) (xs : List A) (r : Option A) (s t : S) → YieldsThen steps s xs r t
    → (rs : List (Option A)) × Calls steps s rs t
calls-of_items steps [] r s t e = (r ∷ [], (t, subst (λ z. steps z r t) (sym e.1) e.2, refl))
calls-of_items steps (x ∷ xs) r s t e = let m = calls-of_items steps xs r e.1.0 t (e.0, e.1.2, e.2) in (Some x ∷ m.0, (e.1.0, e.1.1, m.1))

short-ascends : {A : Type 0} (cmp : A → A → Ordering) (xs : List A) → length xs ≤ 1 → IsStrictlySortedBy cmp xs
unfolding IsStrictlySortedBy
short-ascends cmp [] l = tt
short-ascends cmp (x ∷ []) l = (tt, tt)
short-ascends cmp (x ∷ y ∷ xs) l = absurd (omega arith)

-- a stream of at most one item is in order
pub one-in_order : {S A : Type 0} (cmp : A → A → Ordering) (steps : S → Option A → S → Type 0) (s : S) → AtMostOne steps s
    → InOrder cmp steps s
one-in_order cmp steps s h = record { ascends = λ xs t e. short-ascends cmp xs (h.one xs t e); stays_ended = h.stays_ended }

module _ {S B : Type 0} (steps : S → Option B → S → Type 0) where
  yields-join : (us : List B) (x : B) (s m t : S) (vs : List B) → YieldsThen steps s us (Some x) m → Yields steps m vs t
      → Yields steps s (us ++ x ∷ vs) t
  yields-join [] x s m t vs e k = (m, subst (λ z. steps z (Some x) m) (sym e.1) e.2, k)
  yields-join (u ∷ us) x s m t vs e k = (e.1.0, e.1.1, yields-join us x e.1.0 m t vs (e.0, e.1.2, e.2) k)

  then-join : (zs us : List B) (r : Option B) (s m t : S) → Yields steps s zs m → YieldsThen steps m us r t
      → YieldsThen steps s (zs ++ us) r t
  then-join [] us r s m t e k = subst (λ z. YieldsThen steps z us r t) (sym e) k
  then-join (z ∷ zs) us r s m t e k = let j = then-join zs us r e.0 m t e.2 k in (j.0, (e.0, e.1, j.1), j.2)

  -- no item comes from a any more
  abbrev Over : S → Type 0
  Over a = (n : ℕ) (u : S) (x : B) (v : S) → Rests steps n a u → steps u (Some x) v → ⊥

  over_gives : (us : List B) (x : B) (a b : S) → Over a → YieldsThen steps a us (Some x) b → ⊥
  over_gives [] x a b h e = h zero a x b refl (subst (λ z. steps z (Some x) b) (sym e.1) e.2)
  over_gives (u ∷ us) x a b h e = h zero a u e.1.0 refl e.1.1

  over_ends : (us : List B) (a b : S) → Over a → YieldsThen steps a us None b → Over b
  over_ends [] a b h e = λ n u x v r k. h (suc n) u x v (b, subst (λ z. steps z None b) (sym e.1) e.2, r) k
  over_ends (u ∷ us) a b h e = absurd (h zero a u e.1.0 refl e.1.1)

-- An adapter gives an item that is like one of its source, which passed over others before; it ends where the source does or once it is
-- shut, and then stays shut.
module _ {U S A B : Type 0} (inner : U → S) (Shut : U → Type 0) (Alike : B → A → Type 0) (outer : U → Option A → U → Type 0)
    (steps : S → Option B → S → Type 0)
    (gives : (s t : U) (y : A) → outer s (Some y) t → (us : List B) × (x : B) × YieldsThen steps (inner s) us (Some x) (inner t)
    × Alike x y) (ends : (s t : U) → outer s None t → ((us : List B) × YieldsThen steps (inner s) us None (inner t)) ⊎ Shut t)
    (shut_none : (s t : U) → Shut s → outer s None t → Shut t) (shut_some : (s t : U) (y : A) → Shut s → outer s (Some y) t → ⊥) where
  -- ys are like some of the items zs, in their order
  abbrev Picks : List A → List B → Type 0
  Picks [] zs = ⊤
  Picks (y ∷ ys) zs = (us : List B) × (x : B) × (vs : List B) × (zs ≡ us ++ x ∷ vs) × Alike x y × Picks ys vs

  source_run : (ys : List A) (s t : U) → Yields outer s ys t → (zs : List B) × Yields steps (inner s) zs (inner t) × Picks ys zs
  source_run [] s t e = ([], ap inner e, tt)
  source_run (y ∷ ys) s t e =
      let g = gives s e.0 y e.1 in
      let m = source_run ys e.0 t e.2 in
      (g.0 ++ g.1 ∷ m.0, yields-join steps g.0 g.1 (inner s) (inner e.0) (inner t) m.0 g.2 m.1, (g.0, g.1, m.0, refl, g.3, m.2))

  picks-length : (ys : List A) (zs : List B) → Picks ys zs → length ys ≤ length zs
  picks-length [] zs h = omega arith
  picks-length (y ∷ ys) zs h =
      let l = picks-length ys h.2 h.5 in
      let e : length zs ≡ length h.0 + suc (length h.2) = ap length h.3 ∙ length-append h.0 (h.1 ∷ h.2) in
      omega arith

  rests-on : (t u : U) → (Over steps (inner t) ⊎ Shut t) → outer t None u → (Over steps (inner u) ⊎ Shut u)
  rests-on t u (inl o) k = by_end (ends t u k)
    where
      by_end : ((us : List B) × YieldsThen steps (inner t) us None (inner u)) ⊎ Shut u → (Over steps (inner u) ⊎ Shut u)
      by_end (inl y) = inl (over_ends steps y.0 (inner t) (inner u) o y.1)
      by_end (inr h) = inr h
  rests-on t u (inr h) k = inr (shut_none t u h k)

  over-rests : (n : ℕ) (t u : U) → (Over steps (inner t) ⊎ Shut t) → Rests outer n t u → (Over steps (inner u) ⊎ Shut u)
  over-rests zero t u h e = subst (λ z. Over steps (inner z) ⊎ Shut z) e h
  over-rests (suc n) t u h e = over-rests n e.0 u (rests-on t e.0 h e.1) e.2

  over-some : (u v : U) (y : A) → (Over steps (inner u) ⊎ Shut u) → outer u (Some y) v → ⊥
  over-some u v y (inl o) k = let g = gives u v y k in over_gives steps g.0 g.1 (inner u) (inner v) o g.2
  over-some u v y (inr h) k = shut_some u v y h k

  stays : (s : U) → ((xs : List B) (t : S) → YieldsThen steps (inner s) xs None t → Over steps t)
      → (xs : List A) (t : U) (n : ℕ) (u : U) (x : A) (v : U) → YieldsThen outer s xs None t → Rests outer n t u → outer u (Some x) v → ⊥
  stays s h xs t n u x v e f k = over-some u v x (over-rests n t u (at_end (ends e.0 t e.2)) f) k
    where
      at_end : ((us : List B) × YieldsThen steps (inner e.0) us None (inner t)) ⊎ Shut t → (Over steps (inner t) ⊎ Shut t)
      at_end (inl y) = let m = source_run xs s e.0 e.1 in inl (h (m.0 ++ y.0) (inner t)
          (then-join steps m.0 y.0 None (inner s) (inner e.0) (inner t) m.1 y.1))
      at_end (inr z) = inr z

  pub adapted-one : (s : U) → AtMostOne steps (inner s) → AtMostOne outer s
  adapted-one s h = record {
    one = λ ys t e. let m = source_run ys s t e in let i = picks-length ys m.0 m.2 in let j = h.one m.0 (inner t) m.1 in omega arith;
    stays_ended = stays s (λ xs t e n u x v f k. h.stays_ended xs t n u x v e f k);
  }

  -- nothing comes of an adapter that is shut
  shut-runs : (s t : U) (xs : List A) → Shut s → Yields outer s xs t → (xs ≡ []) × Shut t
  shut-runs s t [] h e = (refl, subst Shut e h)
  shut-runs s t (x ∷ xs) h e = absurd (shut_some s e.0 x h e.1)

  pub shut-one : (s : U) → Shut s → AtMostOne outer s
  shut-one s h = record {
    one = λ xs t e. let l : length xs ≡ 0 = ap length (shut-runs s t xs h e).0 in omega arith;
    stays_ended = λ xs t n u x v e f k. over-some u v x (over-rests n t u (inr (shut_none e.0 t (shut-runs s e.0 xs h e.1).1 e.2)) f) k;
  }

  module _ (cmp : B → B → Ordering) (cmp' : A → A → Ordering) (same : (x z : B) (y w : A) → Alike x y → Alike z w → cmp x z ≡ cmp' y w)
    where
      all-at : (P : B → Type 0) (us : List B) (x : B) (vs : List B) → AllByRecursion P (us ++ x ∷ vs) → P x × AllByRecursion P vs
      all-at P [] x vs h = h
      all-at P (u ∷ us) x vs h = all-at P us x vs h.1

      picks-below : (x : B) (y : A) (ys : List A) (zs : List B) → Alike x y → Picks ys zs → AllByRecursion (λ z. cmp x z ≡ Less) zs
          → AllByRecursion (λ w. cmp' y w ≡ Less) ys
      picks-below x y [] zs l h a = tt
      picks-below x y (w ∷ ys) zs l h a =
          let b = all-at (λ z. cmp x z ≡ Less) h.0 h.1 h.2 (subst (AllByRecursion (λ z. cmp x z ≡ Less)) h.3 a) in
          (sym (same x h.1 y w l h.4) ∙ b.0, picks-below x y ys h.2 l h.5 b.1)

      picks-ascend : (ys : List A) (zs : List B) → Picks ys zs → IsStrictlySortedBy cmp zs → IsStrictlySortedBy cmp' ys
      unfolding IsStrictlySortedBy
      picks-ascend [] zs h a = tt
      picks-ascend (y ∷ ys) zs h a =
          let b = ascends-back cmp h.0 (h.1 ∷ h.2) (subst (IsStrictlySortedBy cmp) h.3 a) in
          (picks-below h.1 y ys h.2 h.4 h.5 b.0, picks-ascend ys h.2 h.5 b.1)

      pub adapted-in_order : (s : U) → InOrder cmp steps (inner s) → InOrder cmp' outer s
      adapted-in_order s h = record {
        ascends = λ ys t e. let m = source_run ys s t e in picks-ascend ys m.0 m.2 (h.ascends m.0 (inner t) m.1);
        stays_ended = stays s (λ xs t e n u x v f k. h.stays_ended xs t n u x v e f k);
      }
