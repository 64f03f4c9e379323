-- Placing elements in order one after another gives what a stable sort gives.
use Rattle.std.proofs.Common.{◌≡◌, ℕ, suc, ◌<◌, List, [], ◌∷◌, ◌++◌, length, get_or, map, refl, ap, arith, sym, ◌∙◌, append_assoc, append-nil}
use Rattle.std.specs.Prelude.{ℤ, Bool, true, false, not, ◌&&◌, filter}
use Rattle.std.specs.Cmp.{IsStrictWeakOrder, IsTotalOrder, then_total, on_total}
use Rattle.std.specs.List.{AllByRecursion}
use Rattle.std.specs.List.Sorted.{IsSortedBy, IsStableBy, ties}
use Rattle.std.proofs.lemmas.Cmp.{int_cmp_total}
use Rattle.std.proofs.lemmas.List.Elements.{filter-append}
use Rattle.std.proofs.lemmas.List.MinMax.{ranks_by}
use Rattle.std.proofs.lemmas.List.Sorted.{sorted_far}
use native.Mathlib.Numerals.{unary_clauses}
use Rattle.number_line.specs.Kept.{place, placed_among, range_cmp, has_less_range}

pub by_cases : {A : Type 0} (b : Bool) → (b ≡ true → A) → (b ≡ false → A) → A
by_cases true f g = f refl
by_cases false f g = g refl

both_false : (a b : Bool) → (not a && not b) ≡ true → (a ≡ false) × (b ≡ false)
both_false true b h = absurd (cc)
both_false false true h = absurd (cc)
both_false false false h = (refl, refl)

module _ {P : Type 0} (less : P → P → Bool) where
  -- no element of the list is less than x
  abbrev pub NoneBelow : P → List P → Type 0
  NoneBelow x list = AllByRecursion (λ y. less y x ≡ false) list

  -- no element is less than one before it
  abbrev pub InOrder : List P → Type 0
  InOrder [] = Unit {0}
  InOrder (x ∷ rest) = NoneBelow x rest × InOrder rest

  abbrev tied : P → List P → List P
  tied z list = filter (ties less z) list

  module _ (order : IsStrictWeakOrder less) where
    not_below_itself : (x : P) → less x x ≡ false
    not_below_itself x = by_cases (less x x) (order.one_way x x) (λ e. e)

    none_below-down : (p q : P) (list : List P) → less q p ≡ false → NoneBelow q list → NoneBelow p list
    none_below-down p q [] h a = tt
    none_below-down p q (y ∷ rest) h a = (order.chain y q p a.0 h, none_below-down p q rest h a.1)

    none_below-place : (x p : P) (list : List P) → NoneBelow x list → less p x ≡ false → NoneBelow x (place less p list)
    none_below-place x p [] a h = (h, tt)
    none_below-place x p (q ∷ rest) a h = by_cases (less p q) (λ e. rw e (h, a)) (λ e. rw e (a.0, none_below-place x p rest a.1 h))

    -- an element placed in a list that is in order
    in_order-place : (p : P) (list : List P) → InOrder list → InOrder (place less p list)
    in_order-place p [] u = (tt, tt)
    in_order-place p (q ∷ rest) u = by_cases (less p q)
        (λ e. let after = order.one_way p q e in rw e ((after, none_below-down p q rest after u.0), u))
        (λ e. rw e (none_below-place q p rest u.0 e, in_order-place p rest u.1))

    pub in_order-placed : (before list : List P) → InOrder before → InOrder (placed_among less before list)
    in_order-placed before [] u = u
    in_order-placed before (p ∷ rest) u = in_order-placed (place less p before) rest (in_order-place p before u)

    -- what ties with z ties with no element from q on, where p ties with z and is less than q
    none_tied : (z p q : P) (list : List P) → less p q ≡ true → ties less z p ≡ true → NoneBelow q list → tied z list ≡ []
    none_tied z p q [] e t a = refl
    none_tied z p q (y ∷ rest) e t a = by_cases (ties less z y)
        (λ k.
        let with_p = both_false (less z p) (less p z) t in
        let with_y = both_false (less z y) (less y z) k in
        let not_less : less p q ≡ false = order.chain p y q (order.chain p z y with_p.1 with_y.0) a.0 in
        absurd (cc))
        (λ k. rw k (none_tied z p q rest e t a.1))

    -- an element is placed behind those that tie with it
    tied-place : (z p : P) (list : List P) → InOrder list → tied z (place less p list) ≡ tied z list ++ tied z (p ∷ [])
    tied-place z p [] u = refl
    tied-place z p (q ∷ rest) u = by_cases (less p q)
        (λ e. by_cases (ties less z p)
        (λ t. let none : tied z (q ∷ rest) ≡ [] = none_tied z p q (q ∷ rest) e t (not_below_itself q, u.0) in rw (e, t, none))
        (λ t. rw (e, t, append-nil (tied z (q ∷ rest)))))
        (λ e. by_cases (ties less z q)
        (λ t. rw (e, t, tied-place z p rest u.1))
        (λ t. rw (e, t) (tied-place z p rest u.1)))

    tied-placed : (z : P) (before list : List P) → InOrder before → tied z (placed_among less before list) ≡ tied z before ++ tied z list
    tied-placed z before [] u = sym (append-nil (tied z before))
    tied-placed z before (p ∷ rest) u =
        tied-placed z (place less p before) rest (in_order-place p before u)
        ∙ (ap (λ l. l ++ tied z rest) (tied-place z p before u)
        ∙ (append_assoc (tied z before) (tied z (p ∷ [])) (tied z rest) ∙ ap (λ l. tied z before ++ l) (sym (filter-append (ties less z) (p ∷ []) rest))))

    tied_with_itself : (p : P) (list : List P) → tied p (p ∷ list) ≡ p ∷ tied p list
    tied_with_itself p list = rw (not_below_itself p)

    heads : (x y : P) (xs ys : List P) → x ∷ xs ≡ y ∷ ys → x ≡ y
    heads x y xs ys e = cc

    -- a first element that is less than the other list's first stands alone among its ties
    not_less_first : (p q : P) (a b : List P) → InOrder (q ∷ b) → tied p (p ∷ a) ≡ tied p (q ∷ b) → less p q ≡ false
    not_less_first p q a b v h = by_cases (less p q)
        (λ e.
        let none : tied p (q ∷ b) ≡ [] = none_tied p p q (q ∷ b) e (rw (not_below_itself p)) (not_below_itself q, v.0) in
        let own = tied_with_itself p a in
        absurd (cc))
        (λ e. e)

    same_first : (p q : P) (a b : List P) → InOrder (p ∷ a) → InOrder (q ∷ b) → ((z : P) → tied z (p ∷ a) ≡ tied z (q ∷ b)) → p ≡ q
    same_first p q a b u v h =
        let one = not_less_first p q a b v (h p) in
        let other = not_less_first q p b a u (sym (h q)) in
        let q_ties : tied p (q ∷ b) ≡ q ∷ tied p b = rw (one, other) in
        heads p q (tied p a) (tied p b) (sym (tied_with_itself p a) ∙ (h p ∙ q_ties))

    same_tail : (z p : P) (a b : List P) → tied z (p ∷ a) ≡ tied z (p ∷ b) → tied z a ≡ tied z b
    same_tail z p a b h = by_cases (ties less z p)
        (λ t. let both : p ∷ tied z a ≡ p ∷ tied z b = rw t at h in cc)
        (λ t. rw t at h)

    -- there is one list in order with given ties
    pub one_order : (a b : List P) → InOrder a → InOrder b → ((z : P) → tied z a ≡ tied z b) → a ≡ b
    one_order [] [] u v h = refl
    one_order [] (q ∷ b) u v h = let own = tied_with_itself q b in let none = h q in absurd (cc)
    one_order (p ∷ a) [] u v h = let own = tied_with_itself p a in let none = h p in absurd (cc)
    one_order (p ∷ a) (q ∷ b) u v h =
        let first : p ≡ q = same_first p q a b u v h in
        let h' : (z : P) → tied z (p ∷ a) ≡ tied z (p ∷ b) = rw (← first) at h in
        let rest : a ≡ b = one_order a b u.1 v.1 (λ z. same_tail z p a b (h' z)) in
        cc

    none_below-at : (x : P) (list : List P) → ((j : ℕ) (d : P) → j < length list → less (get_or list j d) x ≡ false) → NoneBelow x list
    none_below-at x [] h = tt
    none_below-at x (y ∷ rest) h = (h 0 y (omega arith), none_below-at x rest (λ j d k. h (suc j) d (omega arith)))

    in_order-sorted : (list : List P) → IsSortedBy less list → InOrder list
    in_order-sorted [] s = tt
    in_order-sorted (x ∷ rest) s =
        (none_below-at x rest (λ j d k. sorted_far less order (x ∷ rest) s 0 (suc j) d (omega arith) (omega arith)), in_order-sorted rest tail)
      where
        tail : IsSortedBy less rest
        tail = λ k d p q. let h = s (suc k) d (omega arith) (omega arith) in simp unary_clauses (simp unary_clauses at h)

    -- a sorted list whose ties stand as they came is the placed one
    pub sorted_is_placed : (given sorted : List P) → IsSortedBy less sorted → IsStableBy less given sorted → sorted ≡ placed_among less [] given
    sorted_is_placed given sorted s t =
        one_order sorted (placed_among less [] given) (in_order-sorted sorted s) (in_order-placed [] given tt) (λ z. t z ∙ sym (tied-placed z [] given tt))

    -- a list in order is placed already
    pub in_order_is_placed : (list : List P) → InOrder list → placed_among less [] list ≡ list
    in_order_is_placed list u = one_order (placed_among less [] list) list (in_order-placed [] list tt) u (λ z. tied-placed z [] list tt)

-- elements that are compared by what f makes of them
module _ {A B : Type 0} (less : B → B → Bool) (f : A → B) where
  map-place : (p : A) (list : List A) → map f (place (λ x y. less (f x) (f y)) p list) ≡ place less (f p) (map f list)
  map-place p [] = refl
  map-place p (q ∷ rest) = by_cases (less (f p) (f q)) (λ e. rw e) (λ e. rw (e, map-place p rest))

  pub map-placed : (before list : List A) → map f (placed_among (λ x y. less (f x) (f y)) before list) ≡ placed_among less (map f before) (map f list)
  map-placed before [] = refl
  map-placed before (p ∷ rest) = map-placed (place (λ x y. less (f x) (f y)) p before) rest ∙ ap (λ l. placed_among less l (map f rest)) (map-place p before)

-- the order of ranges
pub range_cmp_total : IsTotalOrder range_cmp
range_cmp_total = then_total (on_total (λ (r : ℤ × ℤ). r.0) int_cmp_total) (on_total (λ (r : ℤ × ℤ). r.1) int_cmp_total)

pub ranges_rank : {V : Type 0} → IsStrictWeakOrder (has_less_range {V = V})
ranges_rank {V} = ranks_by range_cmp_total (λ (p : (ℤ × ℤ) × V). p.0)
