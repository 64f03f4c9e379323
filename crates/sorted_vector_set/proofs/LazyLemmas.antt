-- One step of a walk along two sets, whose items are read through references.
use Rattle.std.proofs.Common.{◌≡◌, ℕ, ◌≤◌, inl, inr, Bool, true, false, List, [], ◌∷◌, ◌++◌, map, length, Option, Some, None, MatchOption, IfSome, IfNone, option_to_list, refl, sym, ap, ap₂, subst, ◌∙◌, append_assoc, true≢false, arith}
use Rattle.std.specs.Borrow.{Bor}
use Rattle.std.specs.Cmp.{IsTotalOrder}
use Rattle.std.specs.Iterator.{YieldsFirstBy, MakesProgress, UpTo, at_most, item_count, Drains, Yields}
use Rattle.std.specs.List.Sorted.{IsStrictlySortedBy}
use Rattle.std.specs.Map.Iter.{deref}
use Rattle.std.specs.Slice.Iter.{iter_rest, iter_steps}
use Rattle.std.specs.declared.cmp.Ordering.{Ordering}
use Rattle.std.specs.declared.slice.Iter.{Iter}
use Rattle.ordered_lists.specs.Walks.{walk}
use Rattle.ordered_lists.specs.Lists.{union, intersection, difference, symmetric_difference}
use Rattle.ordered_lists.proofs.MergeLemmas.{no_item}
use Rattle.ordered_lists.proofs.ViewLemmas.{by_view, view-walk}
use Rattle.ordered_lists.proofs.WalkLemmas.{walk-union, walk-intersection, walk-difference, walk-symmetric_difference}
use Rattle.sorted_iter.specs.declared.ahead.Ahead.{Ahead}
use Rattle.sorted_iter.specs.declared.sides.Sides.{Sides}
use Rattle.sorted_iter.specs.GoesOn.{ascends-back}
use Rattle.sorted_iter.specs.Hints.{Bounds, union_hint, intersection_hint, difference_hint, symmetric_difference_hint}
use Rattle.sorted_iter.specs.Lookahead.{pending, is_ended, Reads, Passes, MayFollow}
use Rattle.sorted_iter.specs.TwoSides.{StepsTwo}
use Rattle.sorted_iter.proofs.HintLemmas.{union-length, intersection-length, difference-length, apart-length, union-bounds, intersection-bounds, difference-bounds, apart-bounds}
use Rattle.sorted_vector_set.specs.Hints.{exactly}
use Rattle.sorted_vector_set.specs.Lazy.{left_of, IsSide, AreSides}

pub map-append : {A B : Type 0} (f : A → B) (xs ys : List A) → map f (xs ++ ys) ≡ map f xs ++ map f ys
map-append f [] ys = refl
map-append f (x ∷ xs) ys = ap (λ l. f x ∷ l) (map-append f xs ys)

length-join : {A : Type 0} (xs ys : List A) → length ys ≤ length (xs ++ ys)
length-join [] ys = omega arith
length-join (x ∷ xs) ys = omega (arith, length-join xs ys)

-- some reference to x
abbrev pointing : {X : Type 0} → X → Bor X
pointing x = record { ref_ptr = (0, 0); now = x }

read_back : {X : Type 0} (xs : List X) → map deref (map pointing xs) ≡ xs
read_back [] = refl
read_back (x ∷ xs) = ap (λ l. x ∷ l) (read_back xs)

-- an iterator that shows what is left of it
module _ {S A B : Type 0} (view : A → B) (rest : S → List B) where
  pub progress : (s t : S) (r : Option A) → YieldsFirstBy view rest s r t → MakesProgress (λ _. Unit {0}) (item_count rest) s r t
  progress s t None h = record { on = λ _. tt; keeps = tt; rests = λ _. tt }
  progress s t (Some x) h = record { on = λ _. (tt, tt, omega (arith, ap length h)); keeps = tt; rests = λ _. tt }

  shown : (xs : List A) (s t : S) → Yields (YieldsFirstBy view rest) s xs t → rest s ≡ map view xs ++ rest t
  shown [] s t e = ap rest e
  shown (x ∷ xs) s t e = e.1 ∙ ap (λ l. view x ∷ l) (shown xs e.0 t e.2)

  -- all that comes is what was left
  pub drained : (xs : List A) (s : S) → Drains (YieldsFirstBy view rest) s xs → map view xs ≡ rest s
  drained xs s d = sym (shown xs s d.1.0 d.1.1 ∙ ap (λ l. map view xs ++ l) d.1.2.0 ∙ nil (map view xs))
    where
      nil : (l : List B) → l ++ [] ≡ l
      nil [] = refl
      nil (y ∷ l) = ap (λ k. y ∷ k) (nil l)

where_none : {A P Q : Type 0} (r : Option A) → (P → Q) → IfNone r P → IfNone r Q
where_none None f h = f h
where_none (Some x) f h = h

-- what is left before and after, where one item came or none is left
told : {T : Type 0} (r : Option (Bor T)) (before after : List T) → IfNone r (after ≡ []) → before ≡ map deref (option_to_list r) ++ after
    → MatchOption r ((before ≡ []) × (after ≡ [])) (λ x. before ≡ x.now ∷ after)
told None before after over e = (e ∙ over, over)
told (Some x) before after over e = e

module _ {T : Type 0} where
  reads_rest : (xs : List (Bor T)) (a b : Bool) (s t : Iter T) → (a ≡ true → iter_rest s ≡ []) → Reads (iter_steps {A = T}) a s xs b t → (iter_rest s ≡ map deref xs ++ iter_rest t) × (b ≡ true → iter_rest t ≡ [])
  reads_rest [] a b s t over (inl e) = (ap iter_rest e.1, λ z. subst (λ k. iter_rest k ≡ []) e.1 (over (e.0 ∙ z)))
  reads_rest [] a b s t over (inr e) = let same = ap iter_rest e.2.1 in (sym same, λ _. same ∙ no_item (iter_rest s) e.2.0)
  reads_rest (x ∷ xs) a b s t over e = let m = reads_rest xs false b e.1 t (λ z. absurd (true≢false (sym z))) e.3 in (e.2 ∙ ap (λ l. x.now ∷ l) m.0, m.1)

  -- the side after items were passed
  pub side_step : {cmp : T → T → Ordering} (s t : Ahead (Iter T) (Bor T)) (us : List (Bor T)) → Passes (iter_steps {A = T}) s us t → IsSide cmp s → IsSide cmp t × (left_of s ≡ map deref us ++ left_of t)
  side_step {cmp} s t us p h =
      let m = reads_rest p.read (is_ended s.head) (is_ended t.head) s.source t.source h.over p.calls in
      let front : map deref (pending s.head) ++ map deref p.read ≡ map deref us ++ map deref (pending t.head) = sym (map-append deref (pending s.head) p.read) ∙ ap (map deref) p.items ∙ map-append deref us (pending t.head) in
      let all : left_of s ≡ map deref us ++ left_of t =
      ap (λ l. map deref (pending s.head) ++ l) m.0 ∙ sym (append_assoc (map deref (pending s.head)) (map deref p.read) (iter_rest t.source)) ∙ ap (λ l. l ++ iter_rest t.source) front
      ∙ append_assoc (map deref us) (map deref (pending t.head)) (iter_rest t.source) in (
        record {
          ascends = ascends-back cmp (map deref us) (left_of t) (subst (IsStrictlySortedBy cmp) all h.ascends);
          fits = omega (arith, h.fits, ap length all, length-join (map deref us) (left_of t));
          over = m.1;
        },
        all,
      )

  -- all that is left may follow, by some references
  to_follow : Ahead (Iter T) (Bor T) → List (Bor T)
  to_follow h = pending h.head ++ map pointing (iter_rest h.source)

  follows : {cmp : T → T → Ordering} (h : Ahead (Iter T) (Bor T)) → IsSide cmp h → MayFollow h (to_follow h)
  unfolding to_follow
  follows h k = record { rest = map pointing (iter_rest h.source); is = refl; at_end = λ e. ap (map pointing) (k.over e) }

  follows_read : (h : Ahead (Iter T) (Bor T)) → map deref (to_follow h) ≡ left_of h
  unfolding to_follow
  follows_read h = map-append deref (pending h.head) (map pointing (iter_rest h.source)) ∙ ap (λ l. map deref (pending h.head) ++ l) (read_back (iter_rest h.source))

  module _ (cmp : T → T → Ordering) (left both right : Bool) (f : List T → List T → List T) (equal : (xs ys : List T) → IsStrictlySortedBy cmp xs → IsStrictlySortedBy cmp ys → walk cmp left both right xs ys ≡ f xs ys) where
    on_views : (s : Sides (Iter T) (Iter T) (Bor T) (Bor T)) → AreSides cmp s → map deref (walk (by_view deref cmp) left both right (to_follow s.left) (to_follow s.right)) ≡ f (left_of s.left) (left_of s.right)
    on_views s k = view-walk deref cmp left both right (to_follow s.left) (to_follow s.right) ∙ ap₂ (walk cmp left both right) (follows_read s.left) (follows_read s.right) ∙ equal _ _ k.0.ascends k.1.ascends

    pub step_shows : (s t : Sides (Iter T) (Iter T) (Bor T) (Bor T)) (r : Option (Bor T)) → StepsTwo (walk (by_view deref cmp) left both right) (iter_steps {A = T}) (iter_steps {A = T}) s r t → AreSides cmp s
        → AreSides cmp t × MatchOption r ((f (left_of s.left) (left_of s.right) ≡ []) × (f (left_of t.left) (left_of t.right) ≡ [])) (λ x. f (left_of s.left) (left_of s.right) ≡ x.now ∷ f (left_of t.left) (left_of t.right))
    step_shows s t r k h =
        let l = side_step s.left t.left k.went.us k.went.passed_left h.0 in
        let m = side_step s.right t.right k.went.vs k.went.passed_right h.1 in
        let sides : AreSides cmp t = (l.0, m.0) in
        let xs = to_follow t.left in
        let ys = to_follow t.right in
        let a : map deref (k.went.us ++ xs) ≡ left_of s.left = map-append deref k.went.us xs ∙ ap (λ z. map deref k.went.us ++ z) (follows_read t.left) ∙ sym l.1 in
        let b : map deref (k.went.vs ++ ys) ≡ left_of s.right = map-append deref k.went.vs ys ∙ ap (λ z. map deref k.went.vs ++ z) (follows_read t.right) ∙ sym m.1 in
        let whole : f (left_of s.left) (left_of s.right) ≡ map deref (option_to_list r) ++ f (left_of t.left) (left_of t.right) =
        sym (equal _ _ h.0.ascends h.1.ascends) ∙ sym (ap₂ (walk cmp left both right) a b) ∙ sym (view-walk deref cmp left both right (k.went.us ++ xs) (k.went.vs ++ ys))
        ∙ ap (map deref) (k.went.gave xs ys (follows t.left sides.0) (follows t.right sides.1)) ∙ map-append deref (option_to_list r) (walk (by_view deref cmp) left both right xs ys)
        ∙ ap (λ z. map deref (option_to_list r) ++ z) (on_views t sides) in
        let over = where_none r (λ spent. sym (on_views t sides) ∙ ap (map deref) (spent xs ys (follows t.left sides.0) (follows t.right sides.1))) k.ended in
        (sides, told r _ _ over whole)

-- hints, by how many items are left of both sides
upto : (h : Option ℕ) (n : ℕ) → IfSome h (λ k. n ≤ k) → IfSome h (UpTo (at_most n))
upto None n b = tt
upto (Some k) n b = (tt, b)

exact : {A : Type 0} (xs : List A) → Bounds (exactly (length xs)) xs
exact xs = (omega arith, omega arith)

module _ {T : Type 0} {cmp : T → T → Ordering} (o : IsTotalOrder cmp) (xs ys : List T) (a : IsStrictlySortedBy cmp xs) (b : IsStrictlySortedBy cmp ys) where
  pub union_within : Bounds (union_hint (exactly (length xs)) (exactly (length ys))) (union cmp xs ys)
  union_within = subst (Bounds (union_hint (exactly (length xs)) (exactly (length ys)))) (walk-union o xs ys a b) (union-bounds (exactly (length xs)) (exactly (length ys)) xs ys _ (exact xs) (exact ys) (union-length cmp xs ys))

  pub intersection_within : Bounds (intersection_hint (exactly (length xs)) (exactly (length ys))) (intersection cmp xs ys)
  intersection_within = subst (Bounds (intersection_hint (exactly (length xs)) (exactly (length ys)))) (walk-intersection o xs ys a b) (intersection-bounds (exactly (length xs)) (exactly (length ys)) xs ys _ (exact xs) (exact ys) (intersection-length cmp xs ys))

  pub difference_within : Bounds (difference_hint (exactly (length xs)) (exactly (length ys))) (difference cmp xs ys)
  difference_within = subst (Bounds (difference_hint (exactly (length xs)) (exactly (length ys)))) (walk-difference o xs ys a b) (difference-bounds (exactly (length xs)) (exactly (length ys)) xs ys _ (exact xs) (exact ys) (difference-length cmp xs ys))

  pub apart_within : Bounds (symmetric_difference_hint (exactly (length xs)) (exactly (length ys))) (symmetric_difference cmp xs ys)
  apart_within = subst (Bounds (symmetric_difference_hint (exactly (length xs)) (exactly (length ys)))) (walk-symmetric_difference o xs ys a b) (apart-bounds (exactly (length xs)) (exactly (length ys)) xs ys _ (exact xs) (exact ys) (apart-length cmp xs ys))

  pub union_upto : {h : Option ℕ} → h ≡ (union_hint (exactly (length xs)) (exactly (length ys))).1 → IfSome h (UpTo (at_most (length (union cmp xs ys))))
  union_upto {h} e = upto h _ (subst (λ z. IfSome z (λ k. length (union cmp xs ys) ≤ k)) (sym e) union_within.1)

  pub apart_upto : {h : Option ℕ} → h ≡ (symmetric_difference_hint (exactly (length xs)) (exactly (length ys))).1 → IfSome h (UpTo (at_most (length (symmetric_difference cmp xs ys))))
  apart_upto {h} e = upto h _ (subst (λ z. IfSome z (λ k. length (symmetric_difference cmp xs ys) ≤ k)) (sym e) apart_within.1)
