use Rattle.std.proofs.Common.{◌≡◌, List, [], ◌∷◌, refl, arith, sym, ◌∙◌}
use Rattle.std.specs.Prelude.{ℤ, pos, ◌+ℤ◌, ◌-ℤ◌, ◌≤ℤ◌, ◌<ℤ◌, Bool, true, false, not, ◌||◌, ◌&&◌, cond}
use Rattle.std.specs.List.{filter}
use Rattle.std.specs.Ordering.{int_cmp, int_eq}
use Rattle.std.proofs.lemmas.Int.{ints, by_lt_z}
use Rattle.number_line.specs.Ranges.{holds, IsCanonical, xor}
use Rattle.ordered_lists.specs.Lists.{has, add, union, difference, symmetric_difference}
use Rattle.number_line.proofs.SegmentLemmas.{distance}
use Rattle.cut_points.specs.Cuts.{IsAscending, cuts, from_cuts, parity}
use Rattle.cut_points.proofs.CutLemmas.{changes, parity_of_changes, cuts_ascend, ascending_from, has_cons, cmp_less, cmp_same, cmp_more, eq_less, eq_same, eq_more, both_turn}
use Rattle.cut_points.proofs.RunLemmas.{same_cuts, cuts_are_changes, from_cuts_hold}

or_swap : (a b c : Bool) → (a || (b || c)) ≡ ((b || c) || a)
or_swap true true c = refl
or_swap true false true = refl
or_swap true false false = refl
or_swap false true c = refl
or_swap false false true = refl
or_swap false false false = refl

or_same : (a b : Bool) → (a || b) ≡ ((a || b) || a)
or_same true b = refl
or_same false true = refl
or_same false false = refl

or_group : (a b c : Bool) → (a || (b || c)) ≡ ((a || b) || c)
or_group true b c = refl
or_group false b c = refl

-- a number added
pub has_add : (ys : List ℤ) (x k : ℤ) → has int_cmp (add int_cmp ys x) k ≡ (has int_cmp ys k || int_eq x k)
has_add [] x k = has_cons x [] k ∙ or_none (int_eq x k)
  where
    or_none : (a : Bool) → (a || false) ≡ (false || a)
    or_none true = refl
    or_none false = refl
has_add (y ∷ ys) x k = by_lt_z x y less (λ p. by_lt_z y x (more (has_add ys x k)) (λ q. same (omega (arith, ints))))
  where
    less : x <ℤ y → has int_cmp (add int_cmp (y ∷ ys) x) k ≡ (has int_cmp (y ∷ ys) k || int_eq x k)
    less h = rw (cmp_more y x h, has_cons x (y ∷ ys) k, has_cons y ys k) (or_swap (int_eq x k) (int_eq y k) (has int_cmp ys k))

    more : has int_cmp (add int_cmp ys x) k ≡ (has int_cmp ys k || int_eq x k) → y <ℤ x
        → has int_cmp (add int_cmp (y ∷ ys) x) k ≡ (has int_cmp (y ∷ ys) k || int_eq x k)
    more ih h = rw (cmp_less y x h, has_cons y (add int_cmp ys x) k, has_cons y ys k, ih) (or_group (int_eq y k) (has int_cmp ys k) (int_eq x k))

    same : x ≡ y → has int_cmp (add int_cmp (y ∷ ys) x) k ≡ (has int_cmp (y ∷ ys) k || int_eq x k)
    same e = rw (e, cmp_same y, has_cons y ys k) (or_same (int_eq y k) (has int_cmp ys k))

pub has_union : (xs ys : List ℤ) (k : ℤ) → has int_cmp (union int_cmp xs ys) k ≡ (has int_cmp xs k || has int_cmp ys k)
has_union xs [] k = or_none (has int_cmp xs k)
  where
    or_none : (a : Bool) → a ≡ (a || false)
    or_none true = refl
    or_none false = refl
has_union xs (y ∷ ys) k =
    has_union (add int_cmp xs y) ys k ∙ rw (has_add xs y k, has_cons y ys k) (sym (or_group (has int_cmp xs k) (int_eq y k) (has int_cmp ys k)))

pub has_filter : (p : ℤ → Bool) (xs : List ℤ) (k : ℤ) → has int_cmp (filter p xs) k ≡ (has int_cmp xs k && p k)
has_filter p [] k = refl
has_filter p (x ∷ xs) k = by_lt_z k x (λ h. other (has_filter p xs k) (eq_more x k h) (p x)) (λ h. by_lt_z x k (λ m. other (has_filter p xs k) (eq_less x k m) (p x)) (λ m. same (has_filter p xs k) (omega (arith, ints)) (p x) refl))
  where
    other : has int_cmp (filter p xs) k ≡ (has int_cmp xs k && p k) → int_eq x k ≡ false → (b : Bool)
        → has int_cmp (cond b (x ∷ filter p xs) (filter p xs)) k ≡ (has int_cmp (x ∷ xs) k && p k)
    other ih e true = rw (has_cons x (filter p xs) k, has_cons x xs k, e) ih
    other ih e false = rw (has_cons x xs k, e) ih

    and_with : (a b : Bool) → b ≡ true → true ≡ ((true || a) && b)
    and_with a b e = sym e

    and_not : (a b : Bool) → b ≡ false → (a && b) ≡ ((true || a) && b)
    and_not true b e = refl
    and_not false b e = sym e

    same : has int_cmp (filter p xs) k ≡ (has int_cmp xs k && p k) → k ≡ x → (b : Bool) → p x ≡ b
        → has int_cmp (cond b (x ∷ filter p xs) (filter p xs)) k ≡ (has int_cmp (x ∷ xs) k && p k)
    same ih e true q =
        let here : int_eq x k ≡ true = rw e (eq_same x) in
        let passes : p k ≡ true = rw e q in
        rw (has_cons x (filter p xs) k, has_cons x xs k, here) (and_with (has int_cmp xs k) (p k) passes)
    same ih e false q =
        let here : int_eq x k ≡ true = rw e (eq_same x) in
        let fails : p k ≡ false = rw e q in
        rw (has_cons x xs k, here) (ih ∙ and_not (has int_cmp xs k) (p k) fails)

pub has_symmetric : (xs ys : List ℤ) (k : ℤ) → has int_cmp (symmetric_difference int_cmp xs ys) k ≡ xor (has int_cmp xs k) (has int_cmp ys k)
has_symmetric xs ys k =
    has_union (difference int_cmp xs ys) (difference int_cmp ys xs) k
    ∙ rw (has_filter (λ x. not (has int_cmp ys x)) xs k, has_filter (λ x. not (has int_cmp xs x)) ys k) (just_one (has int_cmp xs k) (has int_cmp ys k))
  where
    just_one : (a b : Bool) → ((a && not b) || (b && not a)) ≡ xor a b
    just_one true true = refl
    just_one true false = refl
    just_one false true = refl
    just_one false false = refl

-- ---- the lists that the operations give ascend

pub add_ascends : (lo hi : ℤ) (ys : List ℤ) (x : ℤ) → IsAscending lo hi ys → lo ≤ℤ x → x ≤ℤ hi → IsAscending lo hi (add int_cmp ys x)
add_ascends lo hi [] x a p q = (p, q, tt)
add_ascends lo hi (y ∷ ys) x a p q = by_lt_z x y less (λ k. by_lt_z y x (λ m. more (add_ascends (y +ℤ pos 1) hi ys x a.2 (omega (arith, ints)) q) m) (λ m. same (omega (arith, ints))))
  where
    less : x <ℤ y → IsAscending lo hi (add int_cmp (y ∷ ys) x)
    less h = rw (cmp_more y x h) (p, q, (omega (arith, ints), a.1, a.2))

    more : IsAscending (y +ℤ pos 1) hi (add int_cmp ys x) → y <ℤ x → IsAscending lo hi (add int_cmp (y ∷ ys) x)
    more ih h = rw (cmp_less y x h) (a.0, a.1, ih)

    same : x ≡ y → IsAscending lo hi (add int_cmp (y ∷ ys) x)
    same e = rw (e, cmp_same y) a

pub union_ascends : (lo hi : ℤ) (xs ys : List ℤ) → IsAscending lo hi xs → IsAscending lo hi ys → IsAscending lo hi (union int_cmp xs ys)
union_ascends lo hi xs [] a b = a
union_ascends lo hi xs (y ∷ ys) a b =
    union_ascends lo hi (add int_cmp xs y) ys (add_ascends lo hi xs y a b.0 b.1) (ascending_from (y +ℤ pos 1) lo hi ys (omega (arith, ints)) b.2)

pub filter_ascends : (lo hi : ℤ) (p : ℤ → Bool) (xs : List ℤ) → IsAscending lo hi xs → IsAscending lo hi (filter p xs)
filter_ascends lo hi p [] a = tt
filter_ascends lo hi p (x ∷ xs) a = at (filter_ascends (x +ℤ pos 1) hi p xs a.2) (p x)
  where
    at : IsAscending (x +ℤ pos 1) hi (filter p xs) → (b : Bool) → IsAscending lo hi (cond b (x ∷ filter p xs) (filter p xs))
    at ih true = (a.0, a.1, ih)
    at ih false = ascending_from (x +ℤ pos 1) lo hi (filter p xs) (omega (arith, ints)) ih

pub symmetric_ascends : (lo hi : ℤ) (xs ys : List ℤ) → IsAscending lo hi xs → IsAscending lo hi ys → IsAscending lo hi (symmetric_difference int_cmp xs ys)
symmetric_ascends lo hi xs ys a b = union_ascends lo hi (difference int_cmp xs ys) (difference int_cmp ys xs)
    (filter_ascends lo hi (λ x. not (has int_cmp ys x)) xs a) (filter_ascends lo hi (λ x. not (has int_cmp xs x)) ys b)

-- ---- the cuts of a symmetric difference

xor_four : (a b c d : Bool) → xor (xor a b) (xor c d) ≡ xor (xor a c) (xor b d)
xor_four true b true d = both_turn b d ∙ sym (turn_out b d)
  where
    turn_out : (b d : Bool) → xor false (xor b d) ≡ xor b d
    turn_out b d = refl
xor_four true true false true = refl
xor_four true true false false = refl
xor_four true false false true = refl
xor_four true false false false = refl
xor_four false true true true = refl
xor_four false true true false = refl
xor_four false false true true = refl
xor_four false false true false = refl
xor_four false b false d = refl

pub changes_xor : (lo : ℤ) (f g h : ℤ → Bool) (x : ℤ) → lo ≤ℤ x → h x ≡ xor (f x) (g x) → (lo <ℤ x → h (x -ℤ pos 1) ≡ xor (f (x -ℤ pos 1)) (g (x -ℤ pos 1)))
    → changes lo h x ≡ xor (changes lo f x) (changes lo g x)
changes_xor lo f g h x p e d = by_lt_z lo x above (λ k. least (omega (arith, ints)))
  where
    above : lo <ℤ x → changes lo h x ≡ xor (changes lo f x) (changes lo g x)
    above k = rw (eq_more x lo k, e, d k) (xor_four (f x) (g x) (f (x -ℤ pos 1)) (g (x -ℤ pos 1)))

    least : x ≡ lo → changes lo h x ≡ xor (changes lo f x) (changes lo g x)
    least m = let same : int_eq x lo ≡ true = rw m (eq_same lo) in rw same e

pub cuts_of_symmetric : (lo hi : ℤ) (a b c : List (ℤ × ℤ)) → IsCanonical lo hi a → IsCanonical lo hi b → IsCanonical lo hi c
    → ((x : ℤ) → lo ≤ℤ x → x ≤ℤ hi → holds c x ≡ xor (holds a x) (holds b x))
    → cuts hi c ≡ symmetric_difference int_cmp (cuts hi a) (cuts hi b)
cuts_of_symmetric lo hi a b c ca cb cc' h =
    same_cuts lo hi (cuts hi c) (symmetric_difference int_cmp (cuts hi a) (cuts hi b)) (cuts_ascend lo hi c cc')
    (symmetric_ascends lo hi (cuts hi a) (cuts hi b) (cuts_ascend lo hi a ca) (cuts_ascend lo hi b cb))
    (λ x p q. cuts_are_changes lo hi c x cc' p q
    ∙ (changes_xor lo (holds a) (holds b) (holds c) x p (h x p q) (λ k. h (x -ℤ pos 1) (omega (arith, ints)) (omega (arith, ints)))
    ∙ sym (has_symmetric (cuts hi a) (cuts hi b) x ∙ rw (cuts_are_changes lo hi a x ca p q, cuts_are_changes lo hi b x cb p q))))

-- the ranges of the symmetric difference of two lists of cuts hold the members of just one
pub symmetric_holds : (lo hi : ℤ) (a b : List (ℤ × ℤ)) → IsCanonical lo hi a → IsCanonical lo hi b
    → (x : ℤ) → lo ≤ℤ x → x ≤ℤ hi → holds (from_cuts hi (symmetric_difference int_cmp (cuts hi a) (cuts hi b))) x ≡ xor (holds a x) (holds b x)
symmetric_holds lo hi a b ca cb x p q =
    let cs = symmetric_difference int_cmp (cuts hi a) (cuts hi b) in
    let f = λ (y : ℤ). xor (holds a y) (holds b y) in
    let up = symmetric_ascends lo hi (cuts hi a) (cuts hi b) (cuts_ascend lo hi a ca) (cuts_ascend lo hi b cb) in
    let d = distance lo x p in
    let here : parity cs (lo +ℤ pos d.0) ≡ f (lo +ℤ pos d.0) = parity_of_changes lo hi cs f up
    (λ y r s. has_symmetric (cuts hi a) (cuts hi b) y
    ∙ (rw (cuts_are_changes lo hi a y ca r s, cuts_are_changes lo hi b y cb r s) refl
    ∙ sym (changes_xor lo (holds a) (holds b) f y r refl (λ k. refl)))) d.0 (rw (← d.1) q) in
    from_cuts_hold lo hi cs x up q ∙ rw d.1 here
