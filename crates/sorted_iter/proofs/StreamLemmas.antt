-- What the four streams give: their order, their runs and their lists.
use Rattle.std.proofs.Common.{◌≡◌, Bool, true, false, List, [], ◌++◌, Option, refl, sym, ap, ap₂, subst, ◌∙◌, append_assoc, true≢false}
use Rattle.std.specs.Iterator.{Yields, DrainsIf, AlwaysYields}
use Rattle.std.specs.Iterator.Runs.{SomeRun, EachRunFrom, IsIdenticalRun}
use Rattle.std.specs.Cmp.{IsTotalOrder}
use Rattle.std.specs.List.Sorted.{IsStrictlySortedBy}
use Rattle.std.specs.declared.cmp.Ordering.{Ordering}
use Rattle.std.proofs.iter.runs.Made.{run, took, at-is}
use Rattle.ordered_lists.specs.Lists.{union, intersection, difference, symmetric_difference}
use Rattle.ordered_lists.specs.Walks.{walk}
use Rattle.ordered_lists.proofs.WalkLemmas.{walk-union, walk-intersection, walk-difference, walk-symmetric_difference}
use Rattle.sorted_iter.specs.declared.sides.Sides.{Sides}
use Rattle.sorted_iter.specs.Orders.{InOrder, GivesList, Begins, RunsAre, ListsAre}
use Rattle.sorted_iter.specs.Lookahead.{ahead_of, pending, is_ended, AheadAscends, WillGive}
use Rattle.sorted_iter.specs.LookaheadLemmas.{reads-drains}
use Rattle.sorted_iter.specs.TwoSides.{sides_of, sides_ascend, Gives, StepsTwo}
use Rattle.sorted_iter.specs.TwoSidesLemmas.{Through, through-yields, through-always, yields-gives, gives-append, two-always}

module _ {S A : Type 0} {steps : S → Option A → S → Type 0} where
  -- what was read of a source in order ascends
  pub ahead_ascends : {cmp : A → A → Ordering} {x : S} → InOrder cmp steps x → AheadAscends cmp steps (ahead_of x)
  ahead_ascends {cmp} {x} h = record {
    ascends = λ us t p.
        let d = reads-drains steps p.read false (is_ended t.head) x t.source refl p.calls in
        subst (IsStrictlySortedBy cmp) p.items (h.ascends p.read d.0 d.1);
  }

  -- a source that was not asked yet will give its list
  pub fresh_gives : {x : S} {xs : List A} → GivesList steps x xs → WillGive steps (ahead_of x) xs
  fresh_gives {xs = xs} h = record { rest = xs; is = refl; at_end = λ e. absurd (true≢false (sym e)); runs = λ _. h.runs }

module _ {S T A : Type 0} {cmp : A → A → Ordering} {firsts : S → Option A → S → Type 0} {seconds : T → Option A → T → Type 0} where
  pub sides-ascend : {x : S} {y : T} (s : Sides S T A A) → s ≡ sides_of x y → InOrder cmp firsts x → InOrder cmp seconds y → sides_ascend cmp firsts cmp seconds s
  sides-ascend s e a b = subst (sides_ascend cmp firsts cmp seconds) (sym e) (ahead_ascends a, ahead_ascends b)

module _ {S T A B C : Type 0} (op : List A → List B → List C) (firsts : S → Option A → S → Type 0) (seconds : T → Option B → T → Type 0) (x : S) (y : T) where
  -- runs of the two sources behind calls that gave zs, and whether these went on to `None`
  pub record Behind (zs : List C) (whole : Bool) : Type 0 where
    pub us : List A
    pub vs : List B
    pub left_whole : Bool
    pub right_whole : Bool
    pub left_ran : DrainsIf firsts (left_whole ≡ true) x us
    pub right_ran : DrainsIf seconds (right_whole ≡ true) y vs
    pub front : (xs : List A) (ys : List B) → (left_whole ≡ true → xs ≡ []) → (right_whole ≡ true → ys ≡ []) → Begins whole zs (op (us ++ xs) (vs ++ ys))

  -- all that the sources give is what was read of them, and what follows
  read_and_rest : {zs : List C} {t : Sides S T A B} (m : Gives op firsts seconds (sides_of x y) zs t) (xs : List A) (ys : List B) → (is_ended t.left.head ≡ true → xs ≡ []) → (is_ended t.right.head ≡ true → ys ≡ [])
      → op (m.passed_left.read ++ xs) (m.passed_right.read ++ ys) ≡ zs ++ op (pending t.left.head ++ xs) (pending t.right.head ++ ys)
  read_and_rest {t = t} m xs ys i j =
      ap₂ op (ap (λ l. l ++ xs) m.passed_left.items ∙ append_assoc m.us (pending t.left.head) xs) (ap (λ l. l ++ ys) m.passed_right.items ∙ append_assoc m.vs (pending t.right.head) ys)
      ∙ m.gave _ _ (record { rest = xs; is = refl; at_end = i }) (record { rest = ys; is = refl; at_end = j })

  pub behind : (zs : List C) (whole : Bool) → DrainsIf (StepsTwo op firsts seconds) (whole ≡ true) (sides_of x y) zs → Behind zs whole
  behind zs false d =
      let t = d.0 in
      let m = yields-gives op firsts seconds zs (sides_of x y) t d.1 in
      record {
        us = m.passed_left.read;
        vs = m.passed_right.read;
        left_whole = is_ended t.left.head;
        right_whole = is_ended t.right.head;
        left_ran = reads-drains firsts m.passed_left.read false (is_ended t.left.head) x t.left.source refl m.passed_left.calls;
        right_ran = reads-drains seconds m.passed_right.read false (is_ended t.right.head) y t.right.source refl m.passed_right.calls;
        front = λ xs ys i j. (op (pending t.left.head ++ xs) (pending t.right.head ++ ys), read_and_rest m xs ys i j, λ w. absurd (true≢false (sym w)));
      }
  behind zs true d =
      let t = (d.2 refl).0 in
      let last = (d.2 refl).1 in
      let m = gives-append op firsts seconds (yields-gives op firsts seconds zs (sides_of x y) d.0 d.1) last.went in
      record {
        us = m.passed_left.read;
        vs = m.passed_right.read;
        left_whole = is_ended t.left.head;
        right_whole = is_ended t.right.head;
        left_ran = reads-drains firsts m.passed_left.read false (is_ended t.left.head) x t.left.source refl m.passed_left.calls;
        right_ran = reads-drains seconds m.passed_right.read false (is_ended t.right.head) y t.right.source refl m.passed_right.calls;
        front = λ xs ys i j. (
          [],
          read_and_rest m xs ys i j ∙ ap (λ l. (zs ++ []) ++ l) (last.ended _ _ (record { rest = xs; is = refl; at_end = i }) (record { rest = ys; is = refl; at_end = j })) ∙ append_assoc zs [] [],
          λ _. refl,
        );
      }

module _ {U S T A : Type 0} (left both right : Bool) (f : List A → List A → List A) (cmp : A → A → Ordering) (firsts : S → Option A → S → Type 0) (seconds : T → Option A → T → Type 0)
    (equal : (xs ys : List A) → IsStrictlySortedBy cmp xs → IsStrictlySortedBy cmp ys → walk cmp left both right xs ys ≡ f xs ys) (sides : U → Sides S T A A) (s : U) (x : S) (y : T) (fresh : sides s ≡ sides_of x y) where
  walk-lists : ListsAre cmp f (Through sides (StepsTwo (walk cmp left both right) firsts seconds)) s firsts x seconds y
  walk-lists xs ys a b c d = record {
    runs = through-always sides (StepsTwo (walk cmp left both right) firsts seconds) (f xs ys) s (subst (λ k. AlwaysYields (StepsTwo (walk cmp left both right) firsts seconds) (λ z. z) k (f xs ys)) (sym fresh)
        (two-always (walk cmp left both right) firsts seconds (f xs ys) (sides_of x y) xs ys (fresh_gives a) (fresh_gives b) (equal xs ys c d)));
  }

  walk-runs : RunsAre cmp f (Through sides (StepsTwo (walk cmp left both right) firsts seconds)) s firsts x seconds y
  walk-runs = record {
    behind = λ p on at.
        let d = took p in
        let start : sides p.from ≡ sides_of x y = ap sides at ∙ fresh in
        let m = behind (walk cmp left both right) firsts seconds x y p.items p.whole
        (sides d.0, subst (λ k. Yields (StepsTwo (walk cmp left both right) firsts seconds) k p.items (sides d.0)) start (through-yields sides (StepsTwo (walk cmp left both right) firsts seconds) p.items p.from d.0 d.1), λ w. (sides (d.2 w).0, (d.2 w).1)) in (
          run firsts x m.us m.left_whole m.left_ran,
          refl {a = x},
          (
            run seconds y m.vs m.right_whole m.right_ran,
            refl {a = y},
            record { front = λ xs ys i j c e. subst (Begins p.whole p.items) (equal _ _ c e) (m.front xs ys i j) },
          ),
        );
  }

module _ {U S T A : Type 0} {cmp : A → A → Ordering} (o : IsTotalOrder cmp) (firsts : S → Option A → S → Type 0) (seconds : T → Option A → T → Type 0) (sides : U → Sides S T A A) (s : U) (x : S) (y : T) (fresh : sides s ≡ sides_of x y) where
  pub union-runs : RunsAre cmp (union cmp) (Through sides (StepsTwo (walk cmp true true true) firsts seconds)) s firsts x seconds y
  union-runs = walk-runs true true true (union cmp) cmp firsts seconds (walk-union o) sides s x y fresh

  pub union-lists : ListsAre cmp (union cmp) (Through sides (StepsTwo (walk cmp true true true) firsts seconds)) s firsts x seconds y
  union-lists = walk-lists true true true (union cmp) cmp firsts seconds (walk-union o) sides s x y fresh

  pub intersection-runs : RunsAre cmp (intersection cmp) (Through sides (StepsTwo (walk cmp false true false) firsts seconds)) s firsts x seconds y
  intersection-runs = walk-runs false true false (intersection cmp) cmp firsts seconds (walk-intersection o) sides s x y fresh

  pub intersection-lists : ListsAre cmp (intersection cmp) (Through sides (StepsTwo (walk cmp false true false) firsts seconds)) s firsts x seconds y
  intersection-lists = walk-lists false true false (intersection cmp) cmp firsts seconds (walk-intersection o) sides s x y fresh

  pub difference-runs : RunsAre cmp (difference cmp) (Through sides (StepsTwo (walk cmp true false false) firsts seconds)) s firsts x seconds y
  difference-runs = walk-runs true false false (difference cmp) cmp firsts seconds (walk-difference o) sides s x y fresh

  pub difference-lists : ListsAre cmp (difference cmp) (Through sides (StepsTwo (walk cmp true false false) firsts seconds)) s firsts x seconds y
  difference-lists = walk-lists true false false (difference cmp) cmp firsts seconds (walk-difference o) sides s x y fresh

  pub symmetric_difference-runs : RunsAre cmp (symmetric_difference cmp) (Through sides (StepsTwo (walk cmp true false true) firsts seconds)) s firsts x seconds y
  symmetric_difference-runs = walk-runs true false true (symmetric_difference cmp) cmp firsts seconds (walk-symmetric_difference o) sides s x y fresh

  pub symmetric_difference-lists : ListsAre cmp (symmetric_difference cmp) (Through sides (StepsTwo (walk cmp true false true) firsts seconds)) s firsts x seconds y
  symmetric_difference-lists = walk-lists true false true (symmetric_difference cmp) cmp firsts seconds (walk-symmetric_difference o) sides s x y fresh

-- a stream that is stepped through the source inside gives what the source gives
module _ {U S A : Type 0} (inner : U → S) (steps : S → Option A → S → Type 0) (s : U) (x : S) (same : inner s ≡ x) where
  pub through-runs : EachRunFrom (Through inner steps) s (λ p. SomeRun steps x (λ q. IsIdenticalRun p q))
  through-runs p on at =
      let d = took p in
      let ran : DrainsIf steps (p.whole ≡ true) x p.items = subst (λ k. DrainsIf steps (p.whole ≡ true) k p.items) (ap inner at ∙ same) (inner d.0, through-yields inner steps p.items p.from d.0 d.1, λ w. (inner (d.2 w).0, (d.2 w).1)) in
      (run steps x p.items p.whole ran, refl, ((sym p.long, refl, λ k. sym (at-is p k)), refl))

  pub through-lists : (xs : List A) → GivesList steps x xs → GivesList (Through inner steps) s xs
  through-lists xs h = record { runs = through-always inner steps xs s (subst (λ k. AlwaysYields steps (λ z. z) k xs) (sym same) h.runs) }
