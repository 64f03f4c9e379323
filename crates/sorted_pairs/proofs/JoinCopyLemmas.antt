-- Copies of joins: what is to come from them.
use Rattle.std.proofs.Common.{◌≡◌, Bool, true, false, cond, List, [], ◌∷◌, ◌++◌, map, Option, Some, option_to_list, inl, inr, refl, subst, ◌∙◌}
use Rattle.std.specs.Iterator.{Count}
use Rattle.std.specs.Cmp.{IsTotalOrder, IsPartialOrder}
use Rattle.std.specs.List.{AllZip}
use Rattle.std.specs.List.Sorted.{IsStrictlySortedBy}
use Rattle.std.specs.Ordering.{match_ordering}
use Rattle.std.specs.declared.cmp.Ordering.{Ordering}
use Rattle.std.specs.declared.cmp.Ordering.TheVariants.{Less, Equal, Greater}
use Rattle.ordered_lists.specs.Joins.{join, left_join, right_join, outer_join}
use Rattle.ordered_lists.specs.Lists.{by_key}
use Rattle.ordered_lists.specs.Walks.{keep}
use Rattle.ordered_lists.proofs.PairLemmas.{by_key_total}
use Rattle.sorted_iter.specs.declared.sides.Sides.{Sides}
use Rattle.ordered_lists.specs.Taken.{ClonesAreEqual}
use Rattle.sorted_iter.specs.Copies.{ClonesGoAlike, IsAheadClone}
use Rattle.sorted_iter.specs.TwoSides.{StepsTwo}
use Rattle.sorted_iter.specs.TwoSidesLemmas.{Through, through-always, two-always}
use Rattle.sorted_iter.proofs.CopyLemmas.{ended-clone, finite-clone, will-clone, ascends-clone, like-of, like_both}
use Rattle.sorted_pairs.specs.declared.matching.EitherOrBoth.{EitherOrBoth}
use Rattle.sorted_pairs.specs.declared.matching.EitherOrBoth.TheVariants.{Left, Both, Right}
use Rattle.sorted_pairs.specs.JoinCopies.{IsSelfOrClone, IsBothCopy, IsLeftCopy, IsRightCopy, IsEitherCopy, IsJoinCopy}
use Rattle.sorted_pairs.specs.MatchLaws.{join-walk, left_join-walk, right_join-walk, outer_join-walk}
use Rattle.sorted_pairs.specs.Matches.{across, matches, read_all, item_of_both, item_of_left, item_of_right, item_of_either, join_walk, left_join_walk, right_join_walk, outer_join_walk}

-- ---- lists of alike items

zip-join : {A : Type 0} (R : A → A → Type 0) (us vs xs ys : List A) → AllZip R us vs → AllZip R xs ys → AllZip R (us ++ xs) (vs ++ ys)
zip-join R [] [] xs ys h k = k
zip-join R [] (v ∷ vs) xs ys h k = absurd h
zip-join R (u ∷ us) [] xs ys h k = absurd h
zip-join R (u ∷ us) (v ∷ vs) xs ys h k = (h.0, zip-join R us vs xs ys h.1 k)

one-order : {M : Type 0} (R : M → M → Type 0) (r : Ordering) (a b c d e f : List M) → AllZip R a d → AllZip R b e → AllZip R c f → AllZip R (match_ordering r a b c) (match_ordering r d e f)
one-order R Less a b c d e f h i j = h
one-order R Equal a b c d e f h i j = i
one-order R Greater a b c d e f h i j = j

keep-alike : {M : Type 0} (R : M → M → Type 0) (b : Bool) (m n : M) (ms ns : List M) → R m n → AllZip R ms ns → AllZip R (keep b m ms) (keep b n ns)
keep-alike R true m n ms ns h k = (h, k)
keep-alike R false m n ms ns h k = k

cond-alike : {M : Type 0} (R : M → M → Type 0) (b : Bool) (ms ns : List M) → AllZip R ms ns → AllZip R (cond b ms []) (cond b ns [])
cond-alike R true ms ns h = h
cond-alike R false ms ns h = tt

-- ---- walks of alike lists

module _ {A B : Type 0} (cmp : A → B → Ordering) (R : A → A → Type 0) (Q : B → B → Type 0) (like : (x z : A) (y w : B) → R x z → Q y w → cmp x y ≡ cmp z w) where
  -- what two walks have at a key
  abbrev AreAlike : EitherOrBoth A B → EitherOrBoth A B → Type 0
  AreAlike (Left x) (Left z) = R x z
  AreAlike (Left x) (Both z w) = ⊥
  AreAlike (Left x) (Right w) = ⊥
  AreAlike (Both x y) (Left z) = ⊥
  AreAlike (Both x y) (Both z w) = R x z × Q y w
  AreAlike (Both x y) (Right w) = ⊥
  AreAlike (Right y) (Left z) = ⊥
  AreAlike (Right y) (Both z w) = ⊥
  AreAlike (Right y) (Right w) = Q y w

  -- what holds of alike items of each kind holds of all
  by_kind : (P : EitherOrBoth A B → EitherOrBoth A B → Type 0) → ((x z : A) → R x z → P (Left x) (Left z)) → ((x z : A) (y w : B) → R x z → Q y w → P (Both x y) (Both z w)) → ((y w : B) → Q y w → P (Right y) (Right w))
      → (m n : EitherOrBoth A B) → AreAlike m n → P m n
  by_kind P f g h (Left x) (Left z) k = f x z k
  by_kind P f g h (Left x) (Both z w) k = absurd k
  by_kind P f g h (Left x) (Right w) k = absurd k
  by_kind P f g h (Both x y) (Left z) k = absurd k
  by_kind P f g h (Both x y) (Both z w) k = g x z y w k.0 k.1
  by_kind P f g h (Both x y) (Right w) k = absurd k
  by_kind P f g h (Right y) (Left z) k = absurd k
  by_kind P f g h (Right y) (Both z w) k = absurd k
  by_kind P f g h (Right y) (Right w) k = h y w k

  lefts-alike : (xs zs : List A) → AllZip R xs zs → AllZip AreAlike (map Left xs) (map Left zs)
  lefts-alike [] [] h = tt
  lefts-alike [] (z ∷ zs) h = absurd h
  lefts-alike (x ∷ xs) [] h = absurd h
  lefts-alike (x ∷ xs) (z ∷ zs) h = (h.0, lefts-alike xs zs h.1)

  rights-alike : (ys ws : List B) → AllZip Q ys ws → AllZip AreAlike (map Right ys) (map Right ws)
  rights-alike [] [] h = tt
  rights-alike [] (w ∷ ws) h = absurd h
  rights-alike (y ∷ ys) [] h = absurd h
  rights-alike (y ∷ ys) (w ∷ ws) h = (h.0, rights-alike ys ws h.1)

  module _ (left both right : Bool) where
    abbrev given : List A → List B → List (EitherOrBoth A B)
    given = matches cmp left both right

    from-alike : (x z : A) (xs zs : List A) → R x z → AllZip R xs zs → ((ys ws : List B) → AllZip Q ys ws → AllZip AreAlike (given xs ys) (given zs ws)) → (ys ws : List B) → AllZip Q ys ws
        → AllZip AreAlike (given (x ∷ xs) ys) (given (z ∷ zs) ws)
    from-alike x z xs zs h k f [] [] g = cond-alike AreAlike left _ _ (lefts-alike (x ∷ xs) (z ∷ zs) (h, k))
    from-alike x z xs zs h k f [] (w ∷ ws) g = absurd g
    from-alike x z xs zs h k f (y ∷ ys) [] g = absurd g
    from-alike x z xs zs h k f (y ∷ ys) (w ∷ ws) g =
        let a = keep-alike AreAlike left (Left x) (Left z) (given xs (y ∷ ys)) (given zs (w ∷ ws)) h (f (y ∷ ys) (w ∷ ws) g) in
        let b = keep-alike AreAlike both (Both x y) (Both z w) (given xs ys) (given zs ws) (h, g.0) (f ys ws g.1) in
        let c = keep-alike AreAlike right (Right y) (Right w) (given (x ∷ xs) ys) (given (z ∷ zs) ws) g.0 (from-alike x z xs zs h k f ys ws g.1) in
        subst (λ r. AllZip AreAlike (given (x ∷ xs) (y ∷ ys)) (match_ordering r (keep left (Left z) (given zs (w ∷ ws))) (keep both (Both z w) (given zs ws)) (keep right (Right w) (given (z ∷ zs) ws)))) (like x z y w h g.0)
        (one-order AreAlike (cmp x y) _ _ _ _ _ _ a b c)

    matches-alike : (xs zs : List A) (ys ws : List B) → AllZip R xs zs → AllZip Q ys ws → AllZip AreAlike (given xs ys) (given zs ws)
    matches-alike [] [] ys ws h k = cond-alike AreAlike right _ _ (rights-alike ys ws k)
    matches-alike [] (z ∷ zs) ys ws h k = absurd h
    matches-alike (x ∷ xs) [] ys ws h k = absurd h
    matches-alike (x ∷ xs) (z ∷ zs) ys ws h k = from-alike x z xs zs h.0 h.1 (λ us vs. matches-alike xs zs us vs h.1) ys ws k

    module _ {C : Type 0} (view : EitherOrBoth A B → Option C) (copies : C → C → Type 0) (read : (m n : EitherOrBoth A B) → AreAlike m n → AllZip copies (option_to_list (view m)) (option_to_list (view n))) where
      read-alike : (ms ns : List (EitherOrBoth A B)) → AllZip AreAlike ms ns → AllZip copies (read_all view ms) (read_all view ns)
      read-alike [] [] h = tt
      read-alike [] (n ∷ ns) h = absurd h
      read-alike (m ∷ ms) [] h = absurd h
      read-alike (m ∷ ms) (n ∷ ns) h = zip-join copies (option_to_list (view m)) (option_to_list (view n)) (read_all view ms) (read_all view ns) (read m n h.0) (read-alike ms ns h.1)

-- ---- the copies of the four joins

module _ {U S T K V W : Type 0} (sides : U → Sides S T (K × V) (K × W)) (cmp : K → K → Ordering) (eq : K → K → Bool) (can : S → Type 0) (count : S → Count) (firsts : S → Option (K × V) → S → Type 0) (can' : T → Type 0) (count' : T → Count) (seconds : T → Option (K × W) → T → Type 0)
    (o : IsTotalOrder cmp) {partial : K → K → Option Ordering} (law : IsPartialOrder eq partial) (agrees : (x y : K) → partial x y ≡ Some (cmp x y)) (itself : (x : K) → eq x x ≡ true) {clones : S → S → Type 0} {clones' : T → T → Type 0} (keys : K → K → Type 0)
    (values : V → V → Type 0) (others : W → W → Type 0) (alike : ClonesGoAlike clones can count firsts) (alike' : ClonesGoAlike clones' can' count' seconds) (equal : ClonesAreEqual keys eq) where
  -- a pair of a side and that of the copy's
  abbrev Pair : {X : Type 0} → (X → X → Type 0) → K × X → K × X → Type 0
  Pair made p q = (eq q.0 p.0 ≡ true) × IsSelfOrClone made p.1 q.1

  abbrev Clone : {X : Type 0} → (X → X → Type 0) → K × X → K × X → Type 0
  Clone made p q = keys p.0 q.0 × made p.1 q.1

  same : {X : Type 0} (made : X → X → Type 0) (p q : K × X) → Clone made p q → Pair made p q
  same made p q h = (equal p.0 q.0 h.0, inr h.1)

  own : {X : Type 0} (made : X → X → Type 0) (p : K × X) → Pair made p p
  own made p = (itself p.0, inl refl)

  like_keys : (x z y : K) → eq z x ≡ true → cmp x y ≡ cmp z y
  like_keys = like-of law agrees

  like_pairs : (x z : K × V) (y w : K × W) → Pair values x z → Pair others y w → across cmp x y ≡ across cmp z w
  like_pairs x z y w h k = like_both o (λ j i. eq i j ≡ true) like_keys x.0 z.0 y.0 w.0 h.0 k.0

  module _ {C : Type 0} (left both right : Bool) (view : EitherOrBoth (K × V) (K × W) → Option C) (f : List (K × V) → List (K × W) → List C) (copies : C → C → Type 0)
      (read : (m n : EitherOrBoth (K × V) (K × W)) → AreAlike (across cmp) (Pair values) (Pair others) like_pairs m n → AllZip copies (option_to_list (view m)) (option_to_list (view n)))
      (walks : (xs : List (K × V)) (ys : List (K × W)) → IsStrictlySortedBy (by_key cmp) xs → IsStrictlySortedBy (by_key cmp) ys → read_all view (matches (across cmp) left both right xs ys) ≡ f xs ys) where
    abbrev op : List (K × V) → List (K × W) → List C
    op xs ys = read_all view (matches (across cmp) left both right xs ys)

    abbrev Steps : Sides S T (K × V) (K × W) → Option C → Sides S T (K × V) (K × W) → Type 0
    Steps = StepsTwo op firsts seconds

    joined-copy : (s t : U) → IsAheadClone clones (Clone values) (sides s).left (sides t).left × IsAheadClone clones' (Clone others) (sides s).right (sides t).right
        → IsJoinCopy sides cmp f copies can count firsts can' count' seconds (Through sides Steps) s t
    joined-copy s t k =
        let l = alike.alike _ _ k.0.0 in
        let r = alike'.alike _ _ k.1.0 in
        record {
          callable = λ c. (
            (λ z. l.callable (c.0 (ended-clone (Clone values) _ _ k.0.1 ∙ z))),
            (λ z. r.callable (c.1 (ended-clone (Clone others) _ _ k.1.1 ∙ z))),
            finite-clone (Clone values) _ _ _ _ k.0.1 l.finite c.2,
            finite-clone (Clone others) _ _ _ _ k.1.1 r.finite c.3,
          );
          in_order = λ h. (
            ascends-clone (Clone values) (Pair values) (same values) (own values) l.same k.0.1 (by_key_total o) (λ x z y e. like_keys x.0 z.0 y.0 e.0) h.0,
            ascends-clone (Clone others) (Pair others) (same others) (own others) r.same k.1.1 (by_key_total o) (λ x z y e. like_keys x.0 z.0 y.0 e.0) h.1,
          );
          lists = λ xs ys v w c d.
              let m = will-clone (Clone values) (Pair values) (same values) (own values) l.same k.0.1 xs v in
              let n = will-clone (Clone others) (Pair others) (same others) (own others) r.same k.1.1 ys w in
              let zs = op m.0 n.0 in
              let pairs = matches-alike (across cmp) (Pair values) (Pair others) like_pairs left both right xs m.0 ys n.0 m.1 n.1 in (
                record { runs = through-always sides Steps (f xs ys) s (two-always op firsts seconds (f xs ys) (sides s) xs ys v w (walks xs ys c d)) },
                (
                  zs,
                  subst (λ q. AllZip copies q zs) (walks xs ys c d) (read-alike (across cmp) (Pair values) (Pair others) like_pairs left both right view copies read _ _ pairs),
                  record { runs = through-always sides Steps zs t (two-always op firsts seconds zs (sides t) m.0 n.0 m.2 n.2 refl) },
                ),
              );
        }

  module _ (s t : U) (k : IsAheadClone clones (Clone values) (sides s).left (sides t).left × IsAheadClone clones' (Clone others) (sides s).right (sides t).right) where
    -- what each join reads of alike items is alike
    reads : {C : Type 0} (view : EitherOrBoth (K × V) (K × W) → Option C) (copies : C → C → Type 0) → ((x z : K × V) → Pair values x z → AllZip copies (option_to_list (view (Left x))) (option_to_list (view (Left z))))
        → ((x z : K × V) (y w : K × W) → Pair values x z → Pair others y w → AllZip copies (option_to_list (view (Both x y))) (option_to_list (view (Both z w))))
        → ((y w : K × W) → Pair others y w → AllZip copies (option_to_list (view (Right y))) (option_to_list (view (Right w)))) → (m n : EitherOrBoth (K × V) (K × W))
        → AreAlike (across cmp) (Pair values) (Pair others) like_pairs m n → AllZip copies (option_to_list (view m)) (option_to_list (view n))
    reads view copies = by_kind (across cmp) (Pair values) (Pair others) like_pairs (λ m n. AllZip copies (option_to_list (view m)) (option_to_list (view n)))

    pub join-copy : IsJoinCopy sides cmp (join cmp) (IsBothCopy eq values others) can count firsts can' count' seconds (Through sides (StepsTwo (join_walk cmp) firsts seconds)) s t
    join-copy = joined-copy false true false item_of_both (join cmp) (IsBothCopy eq values others) (reads item_of_both (IsBothCopy eq values others) (λ x z h. tt) (λ x z y w h i. ((h.0, h.1, i.1), tt)) (λ y w i. tt)) (join-walk o) s t k

    pub left_join-copy : IsJoinCopy sides cmp (left_join cmp) (IsLeftCopy eq values others) can count firsts can' count' seconds (Through sides (StepsTwo (left_join_walk cmp) firsts seconds)) s t
    left_join-copy = joined-copy true true false item_of_left (left_join cmp) (IsLeftCopy eq values others) (reads item_of_left (IsLeftCopy eq values others) (λ x z h. ((h.0, h.1, tt), tt)) (λ x z y w h i. ((h.0, h.1, i.1), tt)) (λ y w i. tt)) (left_join-walk o) s t k

    pub right_join-copy : IsJoinCopy sides cmp (right_join cmp) (IsRightCopy eq values others) can count firsts can' count' seconds (Through sides (StepsTwo (right_join_walk cmp) firsts seconds)) s t
    right_join-copy = joined-copy false true true item_of_right (right_join cmp) (IsRightCopy eq values others) (reads item_of_right (IsRightCopy eq values others) (λ x z h. tt) (λ x z y w h i. ((i.0, h.1, i.1), tt)) (λ y w i. ((i.0, tt, i.1), tt))) (right_join-walk o) s t k

    pub outer_join-copy : IsJoinCopy sides cmp (outer_join cmp) (IsEitherCopy eq values others) can count firsts can' count' seconds (Through sides (StepsTwo (outer_join_walk cmp) firsts seconds)) s t
    outer_join-copy = joined-copy true true true item_of_either (outer_join cmp) (IsEitherCopy eq values others) (reads item_of_either (IsEitherCopy eq values others) (λ x z h. ((h.0, h.1, tt), tt)) (λ x z y w h i. ((h.0, h.1, i.1), tt)) (λ y w i. ((i.0, tt, i.1), tt))) (outer_join-walk o) s t k
