-- Hints bound what is to come: how long a walk along two lists is.
use Rattle.std.proofs.Common.{◌≡◌, ℕ, suc, ◌+◌, ◌≤◌, ◌^◌, Bool, true, false, cond, List, [], ◌∷◌, ◌++◌, length, Option, Some, None, refl, sym, ap, subst, ◌∙◌, arith}
use Rattle.std.specs.Prelude.{IfSome, nat_lt, if◌then◌else◌}
use Rattle.std.specs.Iterator.{Count}
use Rattle.std.specs.List.Sorted.{IsStrictlySortedBy}
use Rattle.std.specs.Ordering.{match_ordering}
use Rattle.std.specs.declared.cmp.Ordering.{Ordering}
use Rattle.std.specs.declared.cmp.Ordering.TheVariants.{Less, Equal, Greater}
use Rattle.ordered_lists.specs.Walks.{walk, walk_from, keep}
use Rattle.sorted_iter.specs.declared.ahead.Head.{Head}
use Rattle.sorted_iter.specs.declared.ahead.Head.TheVariants.{Unread, Held, Ended}
use Rattle.sorted_iter.specs.declared.sides.Sides.{Sides}
use Rattle.sorted_iter.specs.Lookahead.{pending, is_ended}
use Rattle.sorted_iter.specs.Hints.{Hint, IsHint, IsHintOf, Bounds, sum_where_known, lesser_where_known, less_where_known, ahead_hint, union_hint, intersection_hint, difference_hint, symmetric_difference_hint}

-- what holds of the shorter walks holds of each walk
module _ {A : Type 0} (cmp : A → A → Ordering) (left both right : Bool) (P : List A → List A → List A → Type 0) (none : (ys : List A) → P [] ys (cond right ys [])) (alone : (x : A) (xs : List A) → P (x ∷ xs) [] (cond left (x ∷ xs) []))
    (less : (x : A) (xs : List A) (y : A) (ys zs : List A) → P xs (y ∷ ys) zs → P (x ∷ xs) (y ∷ ys) (keep left x zs)) (same : (x : A) (xs : List A) (y : A) (ys zs : List A) → P xs ys zs → P (x ∷ xs) (y ∷ ys) (keep both x zs))
    (more : (x : A) (xs : List A) (y : A) (ys zs : List A) → P (x ∷ xs) ys zs → P (x ∷ xs) (y ∷ ys) (keep right y zs)) where
  turn : (x : A) (xs : List A) (y : A) (ys a b c : List A) (r : Ordering) → P (x ∷ xs) (y ∷ ys) a → P (x ∷ xs) (y ∷ ys) b → P (x ∷ xs) (y ∷ ys) c → P (x ∷ xs) (y ∷ ys) (match_ordering r a b c)
  turn x xs y ys a b c Less h i j = h
  turn x xs y ys a b c Equal h i j = i
  turn x xs y ys a b c Greater h i j = j

  by_turns_from : (x : A) (xs : List A) (on : List A → List A) → ((ys : List A) → P xs ys (on ys)) → (ys : List A) → P (x ∷ xs) ys (walk_from cmp left both right x xs on ys)
  by_turns_from x xs on h [] = alone x xs
  by_turns_from x xs on h (y ∷ ys) = turn x xs y ys _ _ _ (cmp x y) (less x xs y ys _ (h (y ∷ ys))) (same x xs y ys _ (h ys)) (more x xs y ys _ (by_turns_from x xs on h ys))

  by_turns : (xs ys : List A) → P xs ys (walk cmp left both right xs ys)
  by_turns [] ys = none ys
  by_turns (x ∷ xs) ys = by_turns_from x xs (walk cmp left both right xs) (by_turns xs) ys

-- how long the four walks are
pub record UnionLength {A : Type 0} (xs ys zs : List A) : Type 0 where
  pub left : length xs ≤ length zs
  pub right : length ys ≤ length zs
  pub all : length zs ≤ length xs + length ys

pub record IntersectionLength {A : Type 0} (xs ys zs : List A) : Type 0 where
  pub left : length zs ≤ length xs
  pub right : length zs ≤ length ys

pub record DifferenceLength {A : Type 0} (xs ys zs : List A) : Type 0 where
  pub all : length zs ≤ length xs
  pub rest : length xs ≤ length zs + length ys

pub record ApartLength {A : Type 0} (xs ys zs : List A) : Type 0 where
  pub left : length xs ≤ length zs + length ys
  pub right : length ys ≤ length zs + length xs
  pub all : length zs ≤ length xs + length ys

module _ {A : Type 0} (cmp : A → A → Ordering) where
  pub union-length : (xs ys : List A) → UnionLength xs ys (walk cmp true true true xs ys)
  union-length = by_turns cmp true true true UnionLength (λ ys. record { left = omega arith; right = omega arith; all = omega arith }) (λ x xs. record { left = omega arith; right = omega arith; all = omega arith })
      (λ x xs y ys zs h. let i = h.left in let j = h.right in let k = h.all in record { left = omega arith; right = omega arith; all = omega arith })
      (λ x xs y ys zs h. let i = h.left in let j = h.right in let k = h.all in record { left = omega arith; right = omega arith; all = omega arith })
      (λ x xs y ys zs h. let i = h.left in let j = h.right in let k = h.all in record { left = omega arith; right = omega arith; all = omega arith })

  pub intersection-length : (xs ys : List A) → IntersectionLength xs ys (walk cmp false true false xs ys)
  intersection-length = by_turns cmp false true false IntersectionLength (λ ys. record { left = omega arith; right = omega arith }) (λ x xs. record { left = omega arith; right = omega arith })
      (λ x xs y ys zs h. let i = h.left in let j = h.right in record { left = omega arith; right = omega arith })
      (λ x xs y ys zs h. let i = h.left in let j = h.right in record { left = omega arith; right = omega arith })
      (λ x xs y ys zs h. let i = h.left in let j = h.right in record { left = omega arith; right = omega arith })

  pub difference-length : (xs ys : List A) → DifferenceLength xs ys (walk cmp true false false xs ys)
  difference-length = by_turns cmp true false false DifferenceLength (λ ys. record { all = omega arith; rest = omega arith }) (λ x xs. record { all = omega arith; rest = omega arith })
      (λ x xs y ys zs h. let i = h.all in let j = h.rest in record { all = omega arith; rest = omega arith })
      (λ x xs y ys zs h. let i = h.all in let j = h.rest in record { all = omega arith; rest = omega arith })
      (λ x xs y ys zs h. let i = h.all in let j = h.rest in record { all = omega arith; rest = omega arith })

  pub apart-length : (xs ys : List A) → ApartLength xs ys (walk cmp true false true xs ys)
  apart-length = by_turns cmp true false true ApartLength (λ ys. record { left = omega arith; right = omega arith; all = omega arith }) (λ x xs. record { left = omega arith; right = omega arith; all = omega arith })
      (λ x xs y ys zs h. let i = h.left in let j = h.right in let k = h.all in record { left = omega arith; right = omega arith; all = omega arith })
      (λ x xs y ys zs h. let i = h.left in let j = h.right in let k = h.all in record { left = omega arith; right = omega arith; all = omega arith })
      (λ x xs y ys zs h. let i = h.left in let j = h.right in let k = h.all in record { left = omega arith; right = omega arith; all = omega arith })

-- upper bounds
some-if : (b : Bool) (k n : ℕ) → k ≤ n → IfSome (if b then Some n else None) (λ z. k ≤ z)
some-if true k n h = h
some-if false k n h = tt

pub sum-bounds : (a b : Option ℕ) (m n k : ℕ) → IfSome a (λ z. m ≤ z) → IfSome b (λ z. n ≤ z) → k ≤ m + n → IfSome (sum_where_known a b) (λ z. k ≤ z)
sum-bounds None b m n k h i j = tt
sum-bounds (Some x) None m n k h i j = tt
sum-bounds (Some x) (Some y) m n k h i j = some-if (nat_lt (x + y) (2 ^ 64)) k (x + y) (omega arith)

pub lesser-bounds : (a b : Option ℕ) (k : ℕ) → IfSome a (λ z. k ≤ z) → IfSome b (λ z. k ≤ z) → IfSome (lesser_where_known a b) (λ z. k ≤ z)
lesser-bounds None b k h i = tt
lesser-bounds (Some x) None k h i = tt
lesser-bounds (Some x) (Some y) k h i = omega arith

pub falls : (a : Option ℕ) (k m : ℕ) → k ≤ m → IfSome a (λ z. m ≤ z) → IfSome a (λ z. k ≤ z)
falls None k m h i = tt
falls (Some x) k m h i = omega arith

-- lower bounds less upper ones
less-bounds : (low : ℕ) (a : Option ℕ) (m n k : ℕ) → low ≤ m → IfSome a (λ z. n ≤ z) → m ≤ k + n → less_where_known low a ≤ k
less-bounds low None m n k h i j = omega arith
less-bounds low (Some x) m n k h i j = omega arith

-- what bounds the rest of a source bounds it with the item that is held
pub ahead-bounds : {A : Type 0} (h : Head A) (a : Hint) (xs rest : List A) → xs ≡ pending h ++ rest → (is_ended h ≡ true → rest ≡ []) → (is_ended h ≡ false → Bounds a rest) → Bounds (ahead_hint h a) xs
ahead-bounds Unread a xs rest e o b = subst (Bounds a) (sym e) (b refl)
ahead-bounds (Held x) a xs rest e o b =
    let l : length xs ≡ suc (length rest) = ap length e in
    let low = (b refl).0 in
    (omega arith, sum-bounds a.1 (Some 1) (length rest) 1 (length xs) (b refl).1 (omega arith) (omega arith))
ahead-bounds Ended a xs rest e o b = let l : length xs ≡ 0 = ap length (e ∙ o refl) in (omega arith, omega arith)

module _ {A : Type 0} (a b : Hint) (xs ys zs : List A) (l : Bounds a xs) (r : Bounds b ys) where
  pub union-bounds : UnionLength xs ys zs → Bounds (union_hint a b) zs
  union-bounds k = let p = l.0 in let q = r.0 in let i = k.left in let j = k.right in (omega arith, sum-bounds a.1 b.1 (length xs) (length ys) (length zs) l.1 r.1 k.all)

  pub intersection-bounds : IntersectionLength xs ys zs → Bounds (intersection_hint a b) zs
  intersection-bounds k = (omega arith, lesser-bounds a.1 b.1 (length zs) (falls a.1 (length zs) (length xs) k.left l.1) (falls b.1 (length zs) (length ys) k.right r.1))

  pub difference-bounds : DifferenceLength xs ys zs → Bounds (difference_hint a b) zs
  difference-bounds k = (less-bounds a.0 b.1 (length xs) (length ys) (length zs) l.0 r.1 k.rest, falls a.1 (length zs) (length xs) k.all l.1)

  pub apart-bounds : ApartLength xs ys zs → Bounds (symmetric_difference_hint a b) zs
  apart-bounds k =
      let i = less-bounds b.0 a.1 (length ys) (length xs) (length zs) r.0 l.1 k.right in
      let j = less-bounds a.0 b.1 (length xs) (length ys) (length zs) l.0 r.1 k.left in
      (omega arith, sum-bounds a.1 b.1 (length xs) (length ys) (length zs) l.1 r.1 k.all)

module _ {U S T A : Type 0} {sides : U → Sides S T A A} (cmp : A → A → Ordering) (f : List A → List A → List A) (left both right : Bool) (combine : Hint → Hint → Hint) {count : S → Count} {firsts : S → Option A → S → Type 0} {count' : T → Count} {seconds : T → Option A → T → Type 0}
    (equal : (xs ys : List A) → IsStrictlySortedBy cmp xs → IsStrictlySortedBy cmp ys → walk cmp left both right xs ys ≡ f xs ys)
    (bound : (a b : Hint) (xs ys : List A) → Bounds a xs → Bounds b ys → Bounds (combine a b) (walk cmp left both right xs ys)) (s : U) where
  pub hint-of : {l r hint : Hint} → (h : Hint) × IsHint (count (sides s).left.source) h × (l ≡ ahead_hint (sides s).left.head h) → (h : Hint) × IsHint (count' (sides s).right.source) h × (r ≡ ahead_hint (sides s).right.head h) → hint ≡ combine l r
      → IsHintOf sides cmp f combine count firsts count' seconds s hint
  hint-of {l} {r} {hint} a b e =
      let is : hint ≡ combine (ahead_hint (sides s).left.head a.0) (ahead_hint (sides s).right.head b.0) = e ∙ ap (λ z. combine z r) a.2 ∙ ap (combine (ahead_hint (sides s).left.head a.0)) b.2 in
      record {
        first = a.0;
        second = b.0;
        first_kept = a.1;
        second_kept = b.1;
        is = is;
        bounds = λ xs ys v w c d i j.
            let k = bound _ _ xs ys (ahead-bounds (sides s).left.head a.0 xs v.rest v.is v.at_end i) (ahead-bounds (sides s).right.head b.0 ys w.rest w.is w.at_end j) in
            subst (λ z. Bounds z (f xs ys)) (sym is) (subst (Bounds _) (equal xs ys c d) k);
      }
