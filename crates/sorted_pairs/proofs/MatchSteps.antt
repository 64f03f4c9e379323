-- A call of `next_match` on two sides, turn by turn of its loop.
use Rattle.std.proofs.Common.{◌≡◌, ◌≤◌, Bool, true, false, not, cond, List, [], ◌∷◌, ◌++◌, map, Option, Some, None, refl, sym, ap, ap₂, subst, ◌∙◌, arith}
use Rattle.std.specs.Iterator.{Count, size}
use Rattle.std.specs.declared.cmp.Ordering.{Ordering}
use Rattle.std.specs.declared.cmp.Ordering.TheVariants.{Less, Equal, Greater}
use Rattle.ordered_lists.specs.Walks.{keep}
use Rattle.sorted_iter.specs.declared.ahead.Ahead.{Ahead}
use Rattle.sorted_iter.specs.declared.ahead.Head.TheVariants.{Held}
use Rattle.sorted_iter.specs.declared.sides.Sides.{Sides}
use Rattle.sorted_iter.specs.declared.sides.Wants.{Wants}
use Rattle.sorted_iter.specs.Lookahead.{pending, ahead_left, Takes, MayFollow}
use Rattle.sorted_iter.specs.LookaheadLemmas.{passes-none}
use Rattle.sorted_iter.specs.TwoSides.{Gives, StepsTwo, IsSpent, sides_can}
use Rattle.sorted_iter.specs.TwoSidesLemmas.{gives-none, gives-append}
use Rattle.sorted_iter.proofs.TakeLemmas.{takes-none, takes-put_back, takes-held}
use Rattle.sorted_pairs.specs.declared.matching.EitherOrBoth.{EitherOrBoth}
use Rattle.sorted_pairs.specs.declared.matching.EitherOrBoth.TheVariants.{Left, Both, Right}
use Rattle.sorted_pairs.specs.Matches.{matches}

-- what a test of the opposite says
pub unwanted : (b : Bool) → not b ≡ true → b ≡ false
unwanted true h = sym h
unwanted false h = refl

pub is_wanted : (b : Bool) → not b ≡ false → b ≡ true
is_wanted true h = refl
is_wanted false h = sym h

-- what is known of two sources and how their items compare, with what a walk along them gives
pub record Walk (S T A B : Type 0) : Type 1 where
  pub cmp : A → B → Ordering
  pub can_left : S → Type 0
  pub count_left : S → Count
  pub firsts : S → Option A → S → Type 0
  pub can_right : T → Type 0
  pub count_right : T → Count
  pub seconds : T → Option B → T → Type 0
  pub wants : Wants

module _ {S T A B : Type 0} (w : Walk S T A B) where
  abbrev pub op : List A → List B → List (EitherOrBoth A B)
  op = matches w.cmp w.wants.left w.wants.both w.wants.right

  -- the turns so far led from s to t and gave nothing
  pub record Walked (s t : Sides S T A B) : Type 0 where
    pub went : Gives op w.firsts w.seconds s [] t
    pub again : sides_can w.can_left w.count_left w.can_right w.count_right t
    pub left_falls : size (ahead_left w.count_left t.left) ≤ size (ahead_left w.count_left s.left)
    pub right_falls : size (ahead_left w.count_right t.right) ≤ size (ahead_left w.count_right s.right)

  abbrev pub Steps : Sides S T A B → Option (EitherOrBoth A B) → Sides S T A B → Type 0
  Steps = StepsTwo op w.firsts w.seconds

  abbrev pub TakesLeft : Ahead S A → Option A → Ahead S A → Type 0
  TakesLeft = Takes w.can_left w.count_left w.firsts

  abbrev pub TakesRight : Ahead T B → Option B → Ahead T B → Type 0
  TakesRight = Takes w.can_right w.count_right w.seconds

  pub walked-none : (s : Sides S T A B) → sides_can w.can_left w.count_left w.can_right w.count_right s → Walked s s
  walked-none s k = record { went = gives-none op w.firsts w.seconds s; again = k; left_falls = omega arith; right_falls = omega arith }

  matches-nil : (xs : List A) → op xs [] ≡ cond w.wants.left (map Left xs) []
  matches-nil [] = by_flags w.wants.left w.wants.right
    where
      by_flags : (l r : Bool) → cond {A = List (EitherOrBoth A B)} r [] [] ≡ cond l [] []
      by_flags true true = refl
      by_flags true false = refl
      by_flags false true = refl
      by_flags false false = refl
  matches-nil (x ∷ xs) = refl

  nil-matches : (xs : List A) (ys : List B) → xs ≡ [] → op xs ys ≡ cond w.wants.right (map Right ys) []
  nil-matches xs ys e = ap (λ l. op l ys) e

  nil-cond : (b : Bool) → cond {A = List (EitherOrBoth A B)} b [] [] ≡ []
  nil-cond true = refl
  nil-cond false = refl

  keep-one : {M : Type 0} (b : Bool) (m : M) (ms : List M) → keep b m ms ≡ keep b m [] ++ ms
  keep-one true m ms = refl
  keep-one false m ms = refl

module _ {S T A B : Type 0} {w : Walk S T A B} {s m : Sides S T A B} (k : Walked w s m) where
  abbrev given : List A → List B → List (EitherOrBoth A B)
  given = op w

  -- the last turn of a call: it gave an item, or nothing is to come
  gives-item : {t : Sides S T A B} (c : EitherOrBoth A B) → Gives given w.firsts w.seconds m (c ∷ []) t → Steps w s (Some c) t
  gives-item c g = record { went = gives-append given w.firsts w.seconds k.went g; ended = tt }

  gives-end : {t : Sides S T A B} → Gives given w.firsts w.seconds m [] t → IsSpent given w.firsts w.seconds t → Steps w s None t
  gives-end g e = record { went = gives-append given w.firsts w.seconds k.went g; ended = e }

  module _ {l : Ahead S A} (a : TakesLeft w m.left None l) where
    -- the left side has ended, and right items aren't wanted
    pub left-ended_all : w.wants.right ≡ false → Steps w s None (record { left = l; right = m.right })
    left-ended_all e = gives-end (record { us = []; vs = []; passed_left = a.passed; passed_right = passes-none m.right; gave = λ xs ys i j. refl })
        (λ xs ys i j. nil-matches w xs ys (takes-none a i) ∙ ap (λ b. cond b (map Right ys) []) e)

    -- both sides have ended
    pub both-ended : {u : Ahead T B} → TakesRight w m.right None u → Steps w s None (record { left = l; right = u })
    both-ended b = gives-end (record { us = []; vs = []; passed_left = a.passed; passed_right = b.passed; gave = λ xs ys i j. refl })
        (λ xs ys i j. ap₂ given (takes-none a i) (takes-none b j) ∙ nil-cond w w.wants.right)

    -- the left side has ended, and right items are wanted
    pub left-ended : {u : Ahead T B} {y : B} → TakesRight w m.right (Some y) u → w.wants.right ≡ true → Steps w s (Some (Right y)) (record { left = l; right = u })
    left-ended {u} {y} b e = gives-item (Right y) (record {
      us = [];
      vs = y ∷ [];
      passed_left = a.passed;
      passed_right = b.passed;
      gave = λ xs ys i j.
          let n = takes-none a i in
          nil-matches w xs (y ∷ ys) n ∙ ap (λ z. cond z (map Right (y ∷ ys)) []) e ∙ sym (ap (λ z. Right y ∷ z) (nil-matches w xs ys n ∙ ap (λ z. cond z (map Right ys) []) e));
    })

  module _ {l : Ahead S A} {x : A} (a : TakesLeft w m.left (Some x) l) where
    module _ {u : Ahead T B} (b : TakesRight w m.right None u) where
      right-nil : (xs : List A) (ys : List B) → MayFollow u ys → given xs ys ≡ cond w.wants.left (map Left xs) []
      right-nil xs ys j = ap (given xs) (takes-none b j) ∙ matches-nil w xs

      -- the right side has ended, and left items are wanted
      pub right-ended : w.wants.left ≡ true → Steps w s (Some (Left x)) (record { left = l; right = u })
      right-ended e = gives-item (Left x) (record {
        us = x ∷ [];
        vs = [];
        passed_left = a.passed;
        passed_right = b.passed;
        gave = λ xs ys i j. right-nil (x ∷ xs) ys j ∙ ap (λ z. cond z (map Left (x ∷ xs)) []) e ∙ sym (ap (λ z. Left x ∷ z) (right-nil xs ys j ∙ ap (λ z. cond z (map Left xs) []) e));
      })

      -- the right side has ended, and left items aren't wanted
      pub right-ended_all : w.wants.left ≡ false → Steps w s None (record { left = l; right = u })
      right-ended_all e = gives-end (record {
        us = x ∷ [];
        vs = [];
        passed_left = a.passed;
        passed_right = b.passed;
        gave = λ xs ys i j. right-nil (x ∷ xs) ys j ∙ ap (λ z. cond z (map Left (x ∷ xs)) []) e ∙ sym (right-nil xs ys j ∙ ap (λ z. cond z (map Left xs) []) e);
      }) (λ xs ys i j. right-nil xs ys j ∙ ap (λ z. cond z (map Left xs) []) e)

    module _ {y : B} {u : Ahead T B} (b : TakesRight w m.right (Some y) u) where
      -- the left item is less: the right one is held again
      module _ {v : Ahead T B} (e : v ≡ record u { head = Held y }) (c : w.cmp x y ≡ Less) where
        less-turn : Gives given w.firsts w.seconds m (keep w.wants.left (Left x) []) (record { left = l; right = v })
        less-turn = record {
          us = x ∷ [];
          vs = [];
          passed_left = a.passed;
          passed_right = takes-put_back b e;
          gave = λ xs ys i j.
              let f : ys ≡ y ∷ j.rest = j.is ∙ ap (λ z. pending z.head ++ j.rest) e in
              rw f (rw c (keep-one w w.wants.left (Left x) (given xs (y ∷ j.rest))));
        }

        pub less-gives : w.wants.left ≡ true → Steps w s (Some (Left x)) (record { left = l; right = v })
        less-gives h = gives-item (Left x) (subst (λ z. Gives given w.firsts w.seconds m z (record { left = l; right = v })) (ap (λ z. keep z (Left x) []) h) less-turn)

        pub less-on : w.wants.left ≡ false → Walked w s (record { left = l; right = v })
        less-on h =
            let fl = k.again.2 in
            let fr = k.again.3 in
            let again = takes-held b e in
            let n = a.counted fl in
            let o = (again.1 fr).1 in
            let p = k.left_falls in
            let q = k.right_falls in
            record {
              went = gives-append given w.firsts w.seconds k.went (subst (λ z. Gives given w.firsts w.seconds m z (record { left = l; right = v })) (ap (λ z. keep z (Left x) []) h) less-turn);
              again = (a.callable, again.0, a.finite fl, (again.1 fr).0);
              left_falls = omega arith;
              right_falls = omega arith;
            }

      -- the two are equal
      module _ (c : w.cmp x y ≡ Equal) where
        equal-turn : Gives given w.firsts w.seconds m (keep w.wants.both (Both x y) []) (record { left = l; right = u })
        equal-turn = record {
          us = x ∷ [];
          vs = y ∷ [];
          passed_left = a.passed;
          passed_right = b.passed;
          gave = λ xs ys i j. rw c (keep-one w w.wants.both (Both x y) (given xs ys));
        }

        pub equal-gives : w.wants.both ≡ true → Steps w s (Some (Both x y)) (record { left = l; right = u })
        equal-gives h = gives-item (Both x y) (subst (λ z. Gives given w.firsts w.seconds m z (record { left = l; right = u })) (ap (λ z. keep z (Both x y) []) h) equal-turn)

        pub equal-on : w.wants.both ≡ false → Walked w s (record { left = l; right = u })
        equal-on h =
            let fl = k.again.2 in
            let fr = k.again.3 in
            let n = a.counted fl in
            let o = b.counted fr in
            let p = k.left_falls in
            let q = k.right_falls in
            record {
              went = gives-append given w.firsts w.seconds k.went (subst (λ z. Gives given w.firsts w.seconds m z (record { left = l; right = u })) (ap (λ z. keep z (Both x y) []) h) equal-turn);
              again = (a.callable, b.callable, a.finite fl, b.finite fr);
              left_falls = omega arith;
              right_falls = omega arith;
            }

      -- the right item is less: the left one is held again
      module _ {v : Ahead S A} (e : v ≡ record l { head = Held x }) (c : w.cmp x y ≡ Greater) where
        greater-turn : Gives given w.firsts w.seconds m (keep w.wants.right (Right y) []) (record { left = v; right = u })
        greater-turn = record {
          us = [];
          vs = y ∷ [];
          passed_left = takes-put_back a e;
          passed_right = b.passed;
          gave = λ xs ys i j.
              let f : xs ≡ x ∷ i.rest = i.is ∙ ap (λ z. pending z.head ++ i.rest) e in
              rw f (rw c (keep-one w w.wants.right (Right y) (given (x ∷ i.rest) ys)));
        }

        pub greater-gives : w.wants.right ≡ true → Steps w s (Some (Right y)) (record { left = v; right = u })
        greater-gives h = gives-item (Right y) (subst (λ z. Gives given w.firsts w.seconds m z (record { left = v; right = u })) (ap (λ z. keep z (Right y) []) h) greater-turn)

        pub greater-on : w.wants.right ≡ false → Walked w s (record { left = v; right = u })
        greater-on h =
            let fl = k.again.2 in
            let fr = k.again.3 in
            let again = takes-held a e in
            let n = (again.1 fl).1 in
            let o = b.counted fr in
            let p = k.left_falls in
            let q = k.right_falls in
            record {
              went = gives-append given w.firsts w.seconds k.went (subst (λ z. Gives given w.firsts w.seconds m z (record { left = v; right = u })) (ap (λ z. keep z (Right y) []) h) greater-turn);
              again = (again.0, b.callable, (again.1 fl).0, b.finite fr);
              left_falls = omega arith;
              right_falls = omega arith;
            }
