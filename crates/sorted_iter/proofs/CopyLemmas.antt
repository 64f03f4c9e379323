-- Copies of streams: what is to come from them.
use Rattle.std.proofs.Common.{◌≡◌, Bool, true, false, cond, List, [], ◌∷◌, ◌++◌, Option, Some, None, refl, sym, ap, ap₂, subst, ◌∙◌, append-nil, map-id, inl, inr}
use Rattle.std.specs.Iterator.{Count, IsFinite, DrainsIf, AlwaysYields}
use Rattle.std.specs.Cmp.{IsTotalOrder, IsPartialOrder}
use Rattle.std.specs.List.{AllZip, AllByRecursion}
use Rattle.std.specs.List.Sorted.{IsStrictlySortedBy}
use Rattle.std.specs.Ordering.{ordering_reverse, match_ordering}
use Rattle.std.specs.declared.cmp.Ordering.{Ordering}
use Rattle.std.specs.declared.cmp.Ordering.TheVariants.{Less, Equal, Greater}
use Rattle.ordered_lists.proofs.PairLemmas.{same_some}
use Rattle.ordered_lists.specs.Walks.{walk, walk_from, keep}
use Rattle.sorted_iter.specs.declared.ahead.Ahead.{Ahead}
use Rattle.sorted_iter.specs.declared.ahead.Head.{Head}
use Rattle.sorted_iter.specs.declared.ahead.Head.TheVariants.{Unread, Held, Ended}
use Rattle.sorted_iter.specs.declared.sides.Sides.{Sides}
use Rattle.sorted_iter.specs.Orders.{Begins}
use Rattle.sorted_iter.specs.Lookahead.{pending, is_ended, left_behind, Reads, Passes, WillGive, AheadAscends}
use Rattle.sorted_iter.specs.LookaheadLemmas.{reads-ended, reads-drains, passes-none}
use Rattle.sorted_iter.specs.TwoSides.{StepsTwo}
use Rattle.sorted_iter.specs.TwoSidesLemmas.{Through, through-always, two-always}
use Rattle.sorted_iter.proofs.RefLists.{all_runs}
use Rattle.ordered_lists.specs.Taken.{ClonesAreEqual}
use Rattle.sorted_iter.specs.Copies.{ClonesGoAlike, IsHeadClone, IsAheadClone, IsCopy}

-- lists of equal items
module _ {A : Type 0} (R : A → A → Type 0) (itself : (x : A) → R x x) where
  pub zip-same : (xs : List A) → AllZip R xs xs
  zip-same [] = tt
  zip-same (x ∷ xs) = (itself x, zip-same xs)

  pub zip-append : (us vs xs : List A) → AllZip R us vs → AllZip R (us ++ xs) (vs ++ xs)
  zip-append [] [] xs h = zip-same xs
  zip-append [] (v ∷ vs) xs h = absurd h
  zip-append (u ∷ us) [] xs h = absurd h
  zip-append (u ∷ us) (v ∷ vs) xs h = (h.0, zip-append us vs xs h.1)

module _ {A : Type 0} {cmp : A → A → Ordering} (o : IsTotalOrder cmp) (R : A → A → Type 0) (like : (x z y : A) → R x z → cmp x y ≡ cmp z y) where
  like_right : (x z y : A) → R x z → cmp y x ≡ cmp y z
  like_right x z y h = o.antisymm y x ∙ ap ordering_reverse (like x z y h) ∙ sym (o.antisymm y z)

  pub like_both : (x z y w : A) → R x z → R y w → cmp x y ≡ cmp z w
  like_both x z y w h k = like x z y h ∙ like_right y w z k

  all-alike : (x z : A) (ys ws : List A) → R x z → AllZip R ys ws → AllByRecursion (λ y. cmp x y ≡ Less) ys → AllByRecursion (λ y. cmp z y ≡ Less) ws
  all-alike x z [] [] h k a = tt
  all-alike x z [] (w ∷ ws) h k a = absurd k
  all-alike x z (y ∷ ys) [] h k a = absurd k
  all-alike x z (y ∷ ys) (w ∷ ws) h k a = (sym (like_both x z y w h k.0) ∙ a.0, all-alike x z ys ws h k.1 a.1)

  ascends-alike : (xs zs : List A) → AllZip R xs zs → IsStrictlySortedBy cmp xs → IsStrictlySortedBy cmp zs
  unfolding IsStrictlySortedBy
  ascends-alike [] [] h a = tt
  ascends-alike [] (z ∷ zs) h a = absurd h
  ascends-alike (x ∷ xs) [] h a = absurd h
  ascends-alike (x ∷ xs) (z ∷ zs) h a = (all-alike x z xs zs h.0 h.1 a.0, ascends-alike xs zs h.1 a.1)

  -- walks of equal lists are equal
  module _ (left both right : Bool) where
    keep-alike : (b : Bool) (x z : A) (xs zs : List A) → R x z → AllZip R xs zs → AllZip R (keep b x xs) (keep b z zs)
    keep-alike true x z xs zs h k = (h, k)
    keep-alike false x z xs zs h k = k

    alone-alike : (b : Bool) (xs zs : List A) → AllZip R xs zs → AllZip R (cond b xs []) (cond b zs [])
    alone-alike true xs zs h = h
    alone-alike false xs zs h = tt

    match-alike : (r q : Ordering) (a b c d e f : List A) → r ≡ q → AllZip R a d → AllZip R b e → AllZip R c f → AllZip R (match_ordering r a b c) (match_ordering q d e f)
    match-alike Less Less a b c d e f h i j k = i
    match-alike Equal Equal a b c d e f h i j k = j
    match-alike Greater Greater a b c d e f h i j k = k
    match-alike Less Equal a b c d e f h i j k = absurd cc
    match-alike Less Greater a b c d e f h i j k = absurd cc
    match-alike Equal Less a b c d e f h i j k = absurd cc
    match-alike Equal Greater a b c d e f h i j k = absurd cc
    match-alike Greater Less a b c d e f h i j k = absurd cc
    match-alike Greater Equal a b c d e f h i j k = absurd cc

    walk_from-alike : (x z : A) (xs zs : List A) (on on' : List A → List A) → R x z → AllZip R xs zs → ((us vs : List A) → AllZip R us vs → AllZip R (on us) (on' vs)) → (ys ws : List A) → AllZip R ys ws
        → AllZip R (walk_from cmp left both right x xs on ys) (walk_from cmp left both right z zs on' ws)
    walk_from-alike x z xs zs on on' h k f [] [] g = alone-alike left (x ∷ xs) (z ∷ zs) (h, k)
    walk_from-alike x z xs zs on on' h k f [] (w ∷ ws) g = absurd g
    walk_from-alike x z xs zs on on' h k f (y ∷ ys) [] g = absurd g
    walk_from-alike x z xs zs on on' h k f (y ∷ ys) (w ∷ ws) g =
        match-alike (cmp x y) (cmp z w) _ _ _ _ _ _ (like_both x z y w h g.0) (keep-alike left x z (on (y ∷ ys)) (on' (w ∷ ws)) h (f (y ∷ ys) (w ∷ ws) g)) (keep-alike both x z (on ys) (on' ws) h (f ys ws g.1))
        (keep-alike right y w (walk_from cmp left both right x xs on ys) (walk_from cmp left both right z zs on' ws) g.0 (walk_from-alike x z xs zs on on' h k f ys ws g.1))

    pub walk-alike : (xs zs ys ws : List A) → AllZip R xs zs → AllZip R ys ws → AllZip R (walk cmp left both right xs ys) (walk cmp left both right zs ws)
    walk-alike [] [] ys ws h k = alone-alike right ys ws k
    walk-alike [] (z ∷ zs) ys ws h k = absurd h
    walk-alike (x ∷ xs) [] ys ws h k = absurd h
    walk-alike (x ∷ xs) (z ∷ zs) ys ws h k = walk_from-alike x z xs zs (walk cmp left both right xs) (walk cmp left both right zs) h.0 h.1 (λ us vs. walk-alike xs zs us vs h.1) ys ws k

-- runs, and the lists that are given
module _ {S A : Type 0} (steps : S → Option A → S → Type 0) where
  -- a run has the front of what always comes
  front-always : (xs : List A) (s : S) → AlwaysYields steps (λ x. x) s xs → (ys : List A) (w : Bool) → DrainsIf steps (w ≡ true) s ys → Begins w ys xs
  front-always xs s a [] w d = (xs, refl, none xs a)
    where
      none : (l : List A) → AlwaysYields steps (λ x. x) s l → w ≡ true → l ≡ []
      none [] k e = refl
      none (y ∷ l) k e = absurd (k.0 (d.2 e).0 (subst (λ v. steps v None (d.2 e).0) (sym d.1) (d.2 e).1))
  front-always [] s a (y ∷ ys) w d = absurd (a y d.1.0 d.1.1)
  front-always (x ∷ xs) s a (y ∷ ys) w d =
      let one = a.1 y d.1.0 d.1.1 in
      let m = front-always xs d.1.0 one.1 ys w (d.0, d.1.2, d.2) in
      (m.0, ap₂ (λ z l. z ∷ l) (sym one.0) m.1, m.2)

  -- what always comes from s always comes from t, where each run of t is one of s
  always-alike : (xs : List A) (s t : S) → ((ys : List A) (w : Bool) → DrainsIf steps (w ≡ true) t ys → DrainsIf steps (w ≡ true) s ys) → AlwaysYields steps (λ x. x) s xs → AlwaysYields steps (λ x. x) t xs
  always-alike xs s t h a = all_runs (λ x. x) steps xs t (λ ys w d. subst (λ l. Begins w l xs) (sym (map-id ys)) (front-always xs s a ys w (h ys w d)))

  drains-reads : (xs : List A) (s : S) (b : Bool) → DrainsIf steps (b ≡ true) s xs → (u : S) × Reads steps false s xs b u
  drains-reads [] s true d = ((d.2 refl).0, inr (refl, refl, subst (λ v. steps v None (d.2 refl).0) (sym d.1) (d.2 refl).1))
  drains-reads [] s false d = (s, inl (refl, refl))
  drains-reads (x ∷ xs) s b d = let m = drains-reads xs d.1.0 b (d.0, d.1.2, d.2) in (m.0, (refl, d.1.0, d.1.1, m.1))

-- heads
module _ {A : Type 0} (clones : A → A → Type 0) where
  pub ended-clone : (h k : Head A) → IsHeadClone clones h k → is_ended h ≡ is_ended k
  ended-clone Unread k e = ap is_ended (sym e)
  ended-clone (Held x) k e = ap is_ended (sym e.2)
  ended-clone Ended k e = ap is_ended (sym e)

  pub finite-clone : (h k : Head A) (a b : Count) → IsHeadClone clones h k → (IsFinite a → IsFinite b) → IsFinite (left_behind h a) → IsFinite (left_behind k b)
  finite-clone Unread k a b e f g = subst (λ z. IsFinite (left_behind z b)) (sym e) (f g)
  finite-clone (Held x) k a b e f g = subst (λ z. IsFinite (left_behind z b)) (sym e.2) (f g)
  finite-clone Ended k a b e f g = subst (λ z. IsFinite (left_behind z b)) (sym e) tt

  pending-clone : (R : A → A → Type 0) → ((x y : A) → clones x y → R x y) → (h k : Head A) → IsHeadClone clones h k → AllZip R (pending h) (pending k)
  pending-clone R equal Unread k e = subst (λ z. AllZip R [] (pending z)) (sym e) tt
  pending-clone R equal (Held x) k e = subst (λ z. AllZip R (x ∷ []) (pending z)) (sym e.2) (equal x e.0 e.1, tt)
  pending-clone R equal Ended k e = subst (λ z. AllZip R [] (pending z)) (sym e) tt

-- a head that holds nothing
bare : {A : Type 0} → (b : Bool) → (h : Head A) × (is_ended h ≡ b) × (pending h ≡ [])
bare true = (Ended, refl, refl)
bare false = (Unread, refl, refl)

-- sources with what is held
module _ {S A : Type 0} (clones : A → A → Type 0) (R : A → A → Type 0) (equal : (x y : A) → clones x y → R x y) (itself : (x : A) → R x x) {steps : S → Option A → S → Type 0} {s t : Ahead S A}
    (same : (xs : List A) (w : Bool) → DrainsIf steps (w ≡ true) t.source xs → DrainsIf steps (w ≡ true) s.source xs) (head : IsHeadClone clones s.head t.head) where
  pub will-clone : (xs : List A) → WillGive steps s xs → (zs : List A) × AllZip R xs zs × WillGive steps t zs
  will-clone xs w = (
    pending t.head ++ w.rest,
    subst (λ l. AllZip R l (pending t.head ++ w.rest)) (sym w.is) (zip-append R itself (pending s.head) (pending t.head) w.rest (pending-clone clones R equal s.head t.head head)),
    record {
      rest = w.rest;
      is = refl;
      at_end = λ e. w.at_end (ended-clone clones s.head t.head head ∙ e);
      runs = λ e. always-alike steps w.rest s.source t.source same (w.runs (ended-clone clones s.head t.head head ∙ e));
    },
  )

  module _ {cmp : A → A → Ordering} (o : IsTotalOrder cmp) (like : (x z y : A) → R x z → cmp x y ≡ cmp z y) where
    pub ascends-clone : AheadAscends cmp steps s → AheadAscends cmp steps t
    ascends-clone h = record { ascends = λ us u p. go us u p (is_ended t.head) refl }
      where
        held : AllZip R (pending s.head) (pending t.head)
        held = pending-clone clones R equal s.head t.head head

        go : (us : List A) (u : Ahead S A) (p : Passes steps t us u) (b : Bool) → is_ended t.head ≡ b → IsStrictlySortedBy cmp (us ++ pending u.head)
        go us u p true e =
            let z = reads-ended steps p.read (is_ended t.head) (is_ended u.head) t.source u.source e p.calls in
            subst (IsStrictlySortedBy cmp) (sym (append-nil (pending t.head)) ∙ ap (λ l. pending t.head ++ l) (sym z.0) ∙ p.items) (ascends-alike o R like (pending s.head) (pending t.head) held (h.ascends [] s (passes-none s)))
        go us u p false e =
            let d = reads-drains steps p.read (is_ended t.head) (is_ended u.head) t.source u.source e p.calls in
            let r = drains-reads steps p.read s.source (is_ended u.head) (same p.read (is_ended u.head) d) in
            let k = bare {A = A} (is_ended u.head) in
            let begun : is_ended s.head ≡ false = ended-clone clones s.head t.head head ∙ e in
            let calls = subst (λ a. Reads steps a s.source p.read (is_ended u.head) r.0) (sym begun) r.1 in
            let v : Ahead S A = record { source = r.0; head = k.0 } in
            let q : Passes steps s (pending s.head ++ p.read) v = record {
              read = p.read;
              calls = subst (λ b. Reads steps (is_ended s.head) s.source p.read b r.0) (sym k.1) calls;
              items = sym (append-nil (pending s.head ++ p.read)) ∙ ap (λ l. (pending s.head ++ p.read) ++ l) (sym k.2);
            } in
            let up = subst (IsStrictlySortedBy cmp) (ap (λ l. (pending s.head ++ p.read) ++ l) k.2 ∙ append-nil (pending s.head ++ p.read)) (h.ascends (pending s.head ++ p.read) v q) in
            subst (IsStrictlySortedBy cmp) p.items (ascends-alike o R like (pending s.head ++ p.read) (pending t.head ++ p.read) (zip-append R itself (pending s.head) (pending t.head) p.read held) up)

-- equality and order
pub like-of : {A : Type 0} {cmp : A → A → Ordering} {eq : A → A → Bool} {partial : A → A → Option Ordering} → IsPartialOrder eq partial → ((x y : A) → partial x y ≡ Some (cmp x y)) → (x z y : A) → eq z x ≡ true → cmp x y ≡ cmp z y
like-of p m x z y h = same_some _ _ (sym (m x y) ∙ sym (p.congr z x y h) ∙ m z y)

-- the copies of the four streams
module _ {U S T A : Type 0} (sides : U → Sides S T A A) (cmp : A → A → Ordering) (eq : A → A → Bool) (f : List A → List A → List A) (left both right : Bool) (can : S → Type 0) (count : S → Count) (firsts : S → Option A → S → Type 0)
    (can' : T → Type 0) (count' : T → Count) (seconds : T → Option A → T → Type 0) (o : IsTotalOrder cmp) {partial : A → A → Option Ordering} (law : IsPartialOrder eq partial) (agrees : (x y : A) → partial x y ≡ Some (cmp x y)) (itself : (x : A) → eq x x ≡ true)
    (equal : (xs ys : List A) → IsStrictlySortedBy cmp xs → IsStrictlySortedBy cmp ys → walk cmp left both right xs ys ≡ f xs ys) {clones : S → S → Type 0} {clones' : T → T → Type 0} {items : A → A → Type 0} where
  pub copy-of : ClonesGoAlike clones can count firsts → ClonesGoAlike clones' can' count' seconds → ClonesAreEqual items eq → (s t : U) → IsAheadClone clones items (sides s).left (sides t).left × IsAheadClone clones' items (sides s).right (sides t).right
      → IsCopy sides cmp eq f can count firsts can' count' seconds (Through sides (StepsTwo (walk cmp left both right) firsts seconds)) s t
  copy-of a b e s t k =
      let l = a.alike _ _ k.0.0 in
      let r = b.alike _ _ k.1.0 in
      record {
        callable = λ c. (
          (λ z. l.callable (c.0 (ended-clone items _ _ k.0.1 ∙ z))),
          (λ z. r.callable (c.1 (ended-clone items _ _ k.1.1 ∙ z))),
          finite-clone items _ _ _ _ k.0.1 l.finite c.2,
          finite-clone items _ _ _ _ k.1.1 r.finite c.3,
        );
        in_order = λ h. (ascends-clone items (λ x z. eq z x ≡ true) e itself l.same k.0.1 o (like-of law agrees) h.0, ascends-clone items (λ x z. eq z x ≡ true) e itself r.same k.1.1 o (like-of law agrees) h.1);
        lists = λ xs ys v w c d.
            let m = will-clone items (λ x z. eq z x ≡ true) e itself l.same k.0.1 xs v in
            let n = will-clone items (λ x z. eq z x ≡ true) e itself r.same k.1.1 ys w in
            let zs = walk cmp left both right m.0 n.0 in (
              record { runs = through-always sides (StepsTwo (walk cmp left both right) firsts seconds) (f xs ys) s (two-always (walk cmp left both right) firsts seconds (f xs ys) (sides s) xs ys v w (equal xs ys c d)) },
              (
                zs,
                subst (λ q. AllZip (λ x z. eq z x ≡ true) q zs) (equal xs ys c d) (walk-alike o (λ x z. eq z x ≡ true) (like-of law agrees) left both right xs m.0 ys n.0 m.1 n.1),
                record { runs = through-always sides (StepsTwo (walk cmp left both right) firsts seconds) zs t (two-always (walk cmp left both right) firsts seconds zs (sides t) m.0 n.0 m.2 n.2 refl) },
              ),
            );
      }
