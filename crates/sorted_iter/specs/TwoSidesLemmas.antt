-- What follows from the steps of a stream of two sources.
use Rattle.std.proofs.Common.{◌≡◌, ℕ, suc, zero, List, [], ◌∷◌, ◌++◌, Option, Some, refl, sym, ap, ap₂, subst, ◌∙◌, append_assoc}
use Rattle.std.specs.Iterator.{Yields, AlwaysYields}
use Rattle.std.specs.List.Sorted.{IsStrictlySortedBy}
use Rattle.std.specs.declared.cmp.Ordering.{Ordering}
use Rattle.ordered_lists.proofs.WalkLemmas.{ascends-front}
use Rattle.sorted_iter.specs.declared.sides.Sides.{Sides}
use Rattle.sorted_iter.specs.Orders.{Rests, InOrder}
use Rattle.sorted_iter.specs.Lookahead.{pending, AheadAscends, WillGive}
use Rattle.sorted_iter.specs.LookaheadLemmas.{passes-none, passes-append, passes-follow, held-follows, will-follow, passes-will}
use Rattle.sorted_iter.specs.TwoSides.{Gives, IsSpent, StepsTwo}

-- a stream that is stepped through a part of its state
module _ {U S A : Type 0} (inner : U → S) (steps : S → Option A → S → Type 0) where
  abbrev pub Through : U → Option A → U → Type 0
  Through s r t = steps (inner s) r (inner t)

  pub through-yields : (xs : List A) (s t : U) → Yields Through s xs t → Yields steps (inner s) xs (inner t)
  through-yields [] s t e = ap inner e
  through-yields (x ∷ xs) s t e = (inner e.0, e.1, through-yields xs e.0 t e.2)

  pub through-rests : (n : ℕ) (s t : U) → Rests Through n s t → Rests steps n (inner s) (inner t)
  through-rests zero s t e = ap inner e
  through-rests (suc n) s t e = (inner e.0, e.1, through-rests n e.0 t e.2)

  pub through-in_order : (cmp : A → A → Ordering) (s : U) → InOrder cmp steps (inner s) → InOrder cmp Through s
  through-in_order cmp s h = record {
    ascends = λ xs t e. h.ascends xs (inner t) (through-yields xs s t e);
    stays_ended = λ xs t n u x v e f g. h.stays_ended xs (inner t) n (inner u) x (inner v) (inner e.0, through-yields xs s e.0 e.1, e.2)
        (through-rests n t u f) g;
  }

  pub through-always : (xs : List A) (s : U) → AlwaysYields steps (λ x. x) (inner s) xs → AlwaysYields Through (λ x. x) s xs
  through-always [] s h = λ x j k. h x (inner j) k
  through-always (x ∷ xs) s h = ((λ j k. h.0 (inner j) k), λ y j k. let m = h.1 y (inner j) k in (m.0, through-always xs j m.1))

module _ {S T A B C : Type 0} (op : List A → List B → List C) (firsts : S → Option A → S → Type 0)
    (seconds : T → Option B → T → Type 0) where
  abbrev Steps : Sides S T A B → Option C → Sides S T A B → Type 0
  Steps = StepsTwo op firsts seconds

  pub gives-none : (s : Sides S T A B) → Gives op firsts seconds s [] s
  gives-none s = record { us = []; vs = []; passed_left = passes-none s.left; passed_right = passes-none s.right; gave = λ xs ys i j. refl }

  pub gives-append : {s t u : Sides S T A B} {zs ws : List C} → Gives op firsts seconds s zs t → Gives op firsts seconds t ws u
      → Gives op firsts seconds s (zs ++ ws) u
  gives-append {zs = zs} {ws} a b = record {
    us = a.us ++ b.us;
    vs = a.vs ++ b.vs;
    passed_left = passes-append a.passed_left b.passed_left;
    passed_right = passes-append a.passed_right b.passed_right;
    gave = λ xs ys i j. ap₂ op (append_assoc a.us b.us xs) (append_assoc a.vs b.vs ys)
        ∙ a.gave (b.us ++ xs) (b.vs ++ ys) (passes-follow b.passed_left i) (passes-follow b.passed_right j) ∙ ap (λ l. zs ++ l)
        (b.gave xs ys i j) ∙ sym (append_assoc zs ws (op xs ys));
  }

  pub yields-gives : (zs : List C) (s t : Sides S T A B) → Yields Steps s zs t → Gives op firsts seconds s zs t
  yields-gives [] s t e = subst (Gives op firsts seconds s []) e (gives-none s)
  yields-gives (z ∷ zs) s t e = gives-append e.1.went (yields-gives zs e.0 t e.2)

  spent-rests : (n : ℕ) (t u : Sides S T A B) → IsSpent op firsts seconds t → Rests Steps n t u → IsSpent op firsts seconds u
  spent-rests zero t u h e = subst (IsSpent op firsts seconds) e h
  spent-rests (suc n) t u h e = spent-rests n e.0 u e.1.ended e.2

  spent-gives : (u v : Sides S T A B) (x : C) → IsSpent op firsts seconds u → Steps u (Some x) v → ⊥
  spent-gives u v x h e =
      let i = held-follows v.left in
      let j = held-follows v.right in
      let k : [] ≡ x ∷ op (pending v.left.head) (pending v.right.head)
      = sym (h _ _ (passes-follow e.went.passed_left i) (passes-follow e.went.passed_right j)) ∙ e.went.gave _ _ i j in
      absurd cc

  -- the law of a mark, from what `op` does to ascending lists
  pub two-in_order : {R : A → A → Ordering} {Q : B → B → Ordering} {V : C → C → Ordering}
      → ((xs : List A) (ys : List B) → IsStrictlySortedBy R xs → IsStrictlySortedBy Q ys → IsStrictlySortedBy V (op xs ys))
      → (s : Sides S T A B) → AheadAscends R firsts s.left → AheadAscends Q seconds s.right → InOrder V Steps s
  two-in_order {R} {Q} {V} keeps s a b = record {
    ascends = λ zs t e.
        let m = yields-gives zs s t e in
        ascends-front V zs _ (subst (IsStrictlySortedBy V) (m.gave _ _ (held-follows t.left) (held-follows t.right))
        (keeps _ _ (a.ascends m.us t.left m.passed_left) (b.ascends m.vs t.right m.passed_right)));
    stays_ended = λ xs t n u x v e f g. spent-gives u v x (spent-rests n t u e.2.ended f) g;
  }

  -- what the stream gives, where what its sources give is known
  pub two-always : (zs : List C) (s : Sides S T A B) (xs : List A) (ys : List B) → WillGive firsts s.left xs → WillGive seconds s.right ys
      → op xs ys ≡ zs → AlwaysYields Steps (λ x. x) s zs
  two-always [] s xs ys a b e = λ x j k.
      let l = passes-will k.went.passed_left a in
      let r = passes-will k.went.passed_right b in
      let f : [] ≡ x ∷ op l.0 r.0 = sym e ∙ ap₂ op l.1 r.1 ∙ k.went.gave l.0 r.0 (will-follow l.2) (will-follow r.2) in
      absurd cc
  two-always (z ∷ zs) s xs ys a b e = (
    (λ j k.
        let l = passes-will k.went.passed_left a in
        let r = passes-will k.went.passed_right b in
        let f : z ∷ zs ≡ [] = sym e ∙ ap₂ op l.1 r.1 ∙ k.went.gave l.0 r.0 (will-follow l.2) (will-follow r.2) ∙ k.ended l.0 r.0
        (will-follow l.2) (will-follow r.2) in
        absurd cc),
    λ x j k.
        let l = passes-will k.went.passed_left a in
        let r = passes-will k.went.passed_right b in
        let f : z ∷ zs ≡ x ∷ op l.0 r.0 = sym e ∙ ap₂ op l.1 r.1 ∙ k.went.gave l.0 r.0 (will-follow l.2) (will-follow r.2) in
        let g : x ≡ z = cc in
        let h : op l.0 r.0 ≡ zs = cc in
        (g, two-always zs j l.0 r.0 l.2 r.2 h),
  )
