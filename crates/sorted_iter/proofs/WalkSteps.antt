-- A call of `next` on two sides, turn by turn of its loop.
use Rattle.std.proofs.Common.{◌≡◌, ◌≤◌, ◌+◌, ℕ, Bool, true, false, cond, List, [], ◌∷◌, ◌++◌, Option, Some, None, IfNone, option_to_list, refl, sym, ap, ap₂, subst, ◌∙◌, arith}
use Rattle.std.specs.Iterator.{Count, size}
use Rattle.std.specs.declared.cmp.Ordering.{Ordering}
use Rattle.std.specs.declared.cmp.Ordering.TheVariants.{Less, Equal, Greater}
use Rattle.ordered_lists.specs.Walks.{walk, keep}
use Rattle.sorted_iter.specs.declared.ahead.Ahead.{Ahead}
use Rattle.sorted_iter.specs.declared.ahead.Head.TheVariants.{Held}
use Rattle.sorted_iter.specs.declared.sides.Sides.{Sides}
use Rattle.sorted_iter.specs.declared.sides.Wants.{Wants}
use Rattle.sorted_iter.specs.Lookahead.{pending, ahead_left, Takes, MayFollow, Passes}
use Rattle.sorted_iter.specs.LookaheadLemmas.{passes-none}
use Rattle.sorted_iter.specs.TwoSides.{Gives, StepsTwo, IsSpent, sides_can}
use Rattle.sorted_iter.specs.TwoSidesLemmas.{gives-none, gives-append}
use Rattle.sorted_iter.proofs.TakeLemmas.{takes-none, takes-put_back, takes-held, takes-ended}

-- the turns so far led from s to t and gave nothing
pub record Walked {S T A : Type 0} (cmp : A → A → Ordering) (can : S → Type 0) (left : S → Count) (firsts : S → Option A → S → Type 0) (can' : T → Type 0) (left' : T → Count) (seconds : T → Option A → T → Type 0) (wants : Wants) (s : Sides S T A A) (t : Sides S T A A) : Type 0 where
  pub went : Gives (walk cmp wants.left wants.both wants.right) firsts seconds s [] t
  pub again : sides_can can left can' left' t
  pub left_falls : size (ahead_left left t.left) ≤ size (ahead_left left s.left)
  pub right_falls : size (ahead_left left' t.right) ≤ size (ahead_left left' s.right)

-- how many items both sides have left, at most
abbrev pub items_left : {S T A : Type 0} → (S → Count) → (T → Count) → Sides S T A A → ℕ
items_left left left' t = size (ahead_left left t.left) + size (ahead_left left' t.right)

-- the walk of a list and an empty one
walk-nil : {A : Type 0} (cmp : A → A → Ordering) (left both right : Bool) (xs : List A) → walk cmp left both right xs [] ≡ cond left xs []
walk-nil cmp true both true [] = refl
walk-nil cmp true both false [] = refl
walk-nil cmp false both true [] = refl
walk-nil cmp false both false [] = refl
walk-nil cmp left both right (x ∷ xs) = refl

nil-walk : {A : Type 0} (cmp : A → A → Ordering) (left both right : Bool) (xs ys : List A) → xs ≡ [] → walk cmp left both right xs ys ≡ cond right ys []
nil-walk cmp left both right xs ys e = ap (λ l. walk cmp left both right l ys) e

nil-cond : {A : Type 0} (b : Bool) → cond {A = List A} b [] [] ≡ []
nil-cond true = refl
nil-cond false = refl

keep-one : {A : Type 0} (b : Bool) (x : A) (xs : List A) → keep b x xs ≡ keep b x [] ++ xs
keep-one true x xs = refl
keep-one false x xs = refl

module _ {S T A : Type 0} (cmp : A → A → Ordering) (can : S → Type 0) (left : S → Count) (firsts : S → Option A → S → Type 0) (can' : T → Type 0) (left' : T → Count) (seconds : T → Option A → T → Type 0) (wants : Wants) where
  abbrev op : List A → List A → List A
  op = walk cmp wants.left wants.both wants.right

  pub walked-none : (s : Sides S T A A) → sides_can can left can' left' s → Walked cmp can left firsts can' left' seconds wants s s
  walked-none s k = record { went = gives-none op firsts seconds s; again = k; left_falls = omega arith; right_falls = omega arith }

  module _ {s m : Sides S T A A} (w : Walked cmp can left firsts can' left' seconds wants s m) where
    -- the last turn of a call
    steps-of : {t : Sides S T A A} (r : Option A) → Gives op firsts seconds m (option_to_list r) t → IfNone r (IsSpent op firsts seconds t) → StepsTwo op firsts seconds s r t
    steps-of r g e = record { went = gives-append op firsts seconds w.went g; ended = e }

    module _ {l : Ahead S A} (a : Takes can left firsts m.left None l) where
      spent-on : (u : Ahead T A) (r : Option A) → IfNone r ((ys : List A) → MayFollow u ys → ys ≡ []) → IfNone r (IsSpent op firsts seconds (record { left = l; right = u }))
      spent-on u None h = λ xs ys i j. ap₂ op (takes-none a i) (h ys j) ∙ walk-nil cmp wants.left wants.both wants.right [] ∙ nil-cond wants.left
      spent-on u (Some x) h = tt

      -- the left side has ended, and right items are wanted
      pub left-ended : {u : Ahead T A} (r : Option A) → Takes can' left' seconds m.right r u → wants.right ≡ true → StepsTwo op firsts seconds s r (record { left = l; right = u })
      left-ended {u} r b e = steps-of r (record {
        us = [];
        vs = option_to_list r;
        passed_left = a.passed;
        passed_right = b.passed;
        gave = λ xs ys i j.
            nil-walk cmp wants.left wants.both wants.right xs (option_to_list r ++ ys) (takes-none a i) ∙ ap (λ k. cond k (option_to_list r ++ ys) []) e
            ∙ sym (ap (λ z. option_to_list r ++ z) (nil-walk cmp wants.left wants.both wants.right xs ys (takes-none a i) ∙ ap (λ k. cond k ys []) e));
      }) (spent-on u r (takes-ended r b))

      -- the left side has ended, and right items aren't wanted: some may have been passed
      pub left-ended_past : {u : Ahead T A} {vs : List A} → Passes seconds m.right vs u → wants.right ≡ false → StepsTwo op firsts seconds s None (record { left = l; right = u })
      left-ended_past {u} {vs} p e =
          let nil : (xs ys : List A) → MayFollow l xs → op xs ys ≡ []
          = λ xs ys i. nil-walk cmp wants.left wants.both wants.right xs ys (takes-none a i) ∙ ap (λ k. cond k ys []) e in
          steps-of None (record { us = []; vs = vs; passed_left = a.passed; passed_right = p; gave = λ xs ys i j. nil xs (vs ++ ys) i ∙ sym (nil xs ys i) })
          (λ xs ys i j. nil xs ys i)

      pub left-ended_all : wants.right ≡ false → StepsTwo op firsts seconds s None (record { left = l; right = m.right })
      left-ended_all e = left-ended_past (passes-none m.right) e

    module _ {l : Ahead S A} {x : A} (a : Takes can left firsts m.left (Some x) l) where
      module _ {u : Ahead T A} (b : Takes can' left' seconds m.right None u) where
        right-nil : (xs ys : List A) → MayFollow u ys → op xs ys ≡ cond wants.left xs []
        right-nil xs ys j = ap (op xs) (takes-none b j) ∙ walk-nil cmp wants.left wants.both wants.right xs

        -- the right side has ended, and left items are wanted
        pub right-ended : wants.left ≡ true → StepsTwo op firsts seconds s (Some x) (record { left = l; right = u })
        right-ended e = steps-of (Some x) (record {
          us = x ∷ [];
          vs = [];
          passed_left = a.passed;
          passed_right = b.passed;
          gave = λ xs ys i j. right-nil (x ∷ xs) ys j ∙ ap (λ k. cond k (x ∷ xs) []) e ∙ sym (ap (λ z. x ∷ z) (right-nil xs ys j ∙ ap (λ k. cond k xs []) e));
        }) tt

        -- the right side has ended, and left items aren't wanted
        pub right-ended_all : wants.left ≡ false → StepsTwo op firsts seconds s None (record { left = l; right = u })
        right-ended_all e = steps-of None (record {
          us = x ∷ [];
          vs = [];
          passed_left = a.passed;
          passed_right = b.passed;
          gave = λ xs ys i j. right-nil (x ∷ xs) ys j ∙ ap (λ k. cond k (x ∷ xs) []) e ∙ sym (right-nil xs ys j ∙ ap (λ k. cond k xs []) e);
        }) (λ xs ys i j. right-nil xs ys j ∙ ap (λ k. cond k xs []) e)

      module _ {y : A} {u : Ahead T A} (b : Takes can' left' seconds m.right (Some y) u) where
        -- the left item is less: the right one is held again
        less-turn : {v : Ahead T A} → v ≡ record u { head = Held y } → cmp x y ≡ Less → Gives op firsts seconds m (keep wants.left x []) (record { left = l; right = v })
        less-turn {v} e c = record {
          us = x ∷ [];
          vs = [];
          passed_left = a.passed;
          passed_right = takes-put_back b e;
          gave = λ xs ys i j.
              let f : ys ≡ y ∷ j.rest = j.is ∙ ap (λ k. pending k.head ++ j.rest) e in
              rw f (rw c (keep-one wants.left x (op xs (y ∷ j.rest))));
        }

        pub less-gives : {v : Ahead T A} → v ≡ record u { head = Held y } → cmp x y ≡ Less → wants.left ≡ true → StepsTwo op firsts seconds s (Some x) (record { left = l; right = v })
        less-gives {v} e c k = steps-of (Some x) (subst (λ z. Gives op firsts seconds m z (record { left = l; right = v })) (ap (λ z. keep z x []) k) (less-turn e c)) tt

        pub less-on : {v : Ahead T A} → v ≡ record u { head = Held y } → cmp x y ≡ Less → wants.left ≡ false → Walked cmp can left firsts can' left' seconds wants s (record { left = l; right = v })
        less-on {v} e c k =
            let fl = w.again.2 in
            let fr = w.again.3 in
            let h = takes-held b e in
            let n = a.counted fl in
            let o = (h.1 fr).1 in
            let p = w.left_falls in
            let q = w.right_falls in
            record {
              went = gives-append op firsts seconds w.went (subst (λ z. Gives op firsts seconds m z (record { left = l; right = v })) (ap (λ z. keep z x []) k) (less-turn e c));
              again = (a.callable, h.0, a.finite fl, (h.1 fr).0);
              left_falls = omega arith;
              right_falls = omega arith;
            }

        -- the two are equal
        equal-turn : cmp x y ≡ Equal → Gives op firsts seconds m (keep wants.both x []) (record { left = l; right = u })
        equal-turn c = record {
          us = x ∷ [];
          vs = y ∷ [];
          passed_left = a.passed;
          passed_right = b.passed;
          gave = λ xs ys i j. rw c (keep-one wants.both x (op xs ys));
        }

        pub equal-gives : cmp x y ≡ Equal → wants.both ≡ true → StepsTwo op firsts seconds s (Some x) (record { left = l; right = u })
        equal-gives c k = steps-of (Some x) (subst (λ z. Gives op firsts seconds m z (record { left = l; right = u })) (ap (λ z. keep z x []) k) (equal-turn c)) tt

        pub equal-on : cmp x y ≡ Equal → wants.both ≡ false → Walked cmp can left firsts can' left' seconds wants s (record { left = l; right = u })
        equal-on c k =
            let fl = w.again.2 in
            let fr = w.again.3 in
            let n = a.counted fl in
            let o = b.counted fr in
            let p = w.left_falls in
            let q = w.right_falls in
            record {
              went = gives-append op firsts seconds w.went (subst (λ z. Gives op firsts seconds m z (record { left = l; right = u })) (ap (λ z. keep z x []) k) (equal-turn c));
              again = (a.callable, b.callable, a.finite fl, b.finite fr);
              left_falls = omega arith;
              right_falls = omega arith;
            }

        -- the right item is less: the left one is held again
        greater-turn : {v : Ahead S A} → v ≡ record l { head = Held x } → cmp x y ≡ Greater → Gives op firsts seconds m (keep wants.right y []) (record { left = v; right = u })
        greater-turn {v} e c = record {
          us = [];
          vs = y ∷ [];
          passed_left = takes-put_back a e;
          passed_right = b.passed;
          gave = λ xs ys i j.
              let f : xs ≡ x ∷ i.rest = i.is ∙ ap (λ k. pending k.head ++ i.rest) e in
              rw f (rw c (keep-one wants.right y (op (x ∷ i.rest) ys)));
        }

        pub greater-gives : {v : Ahead S A} → v ≡ record l { head = Held x } → cmp x y ≡ Greater → wants.right ≡ true → StepsTwo op firsts seconds s (Some y) (record { left = v; right = u })
        greater-gives {v} e c k = steps-of (Some y) (subst (λ z. Gives op firsts seconds m z (record { left = v; right = u })) (ap (λ z. keep z y []) k) (greater-turn e c)) tt

        pub greater-on : {v : Ahead S A} → v ≡ record l { head = Held x } → cmp x y ≡ Greater → wants.right ≡ false → Walked cmp can left firsts can' left' seconds wants s (record { left = v; right = u })
        greater-on {v} e c k =
            let fl = w.again.2 in
            let fr = w.again.3 in
            let h = takes-held a e in
            let n = (h.1 fl).1 in
            let o = b.counted fr in
            let p = w.left_falls in
            let q = w.right_falls in
            record {
              went = gives-append op firsts seconds w.went (subst (λ z. Gives op firsts seconds m z (record { left = v; right = u })) (ap (λ z. keep z y []) k) (greater-turn e c));
              again = (h.0, b.callable, (h.1 fl).0, b.finite fr);
              left_falls = omega arith;
              right_falls = omega arith;
            }
