-- Items that are compared by what a view reads of them, as references are by what they point to: the set operations of such
-- lists read as those of what is read.
use Rattle.std.proofs.Common.{◌≡◌, Bool, true, false, not, is_some, cond, List, [], ◌∷◌, map, Some, refl, ap, ap₂, ◌∙◌}
use Rattle.std.specs.List.{AllByRecursion, filter}
use Rattle.std.specs.List.Sorted.{IsStrictlySortedBy}
use Rattle.std.specs.declared.cmp.Ordering.{Ordering}
use Rattle.std.specs.declared.cmp.Ordering.TheVariants.{Less, Equal, Greater}
use Rattle.std.specs.Ordering.{match_ordering, is_eq}
use Rattle.ordered_lists.specs.Lists.{find, has, add, union, intersection, difference, symmetric_difference}
use Rattle.ordered_lists.specs.Walks.{keep, walk_from, walk}

module _ {A B : Type 0} (view : A → B) (cmp : B → B → Ordering) where
  abbrev pub by_view : A → A → Ordering
  by_view x y = cmp (view x) (view y)

  all_viewed : (b : A) (xs : List A) → AllByRecursion (λ y. cmp (view b) y ≡ Less) (map view xs) → AllByRecursion (λ y. by_view b y ≡ Less) xs
  all_viewed b [] h = tt
  all_viewed b (x ∷ xs) h = (h.0, all_viewed b xs h.1)

  pub ascends-by_view : (xs : List A) → IsStrictlySortedBy cmp (map view xs) → IsStrictlySortedBy by_view xs
  unfolding IsStrictlySortedBy
  ascends-by_view [] h = tt
  ascends-by_view (x ∷ xs) h = (all_viewed x xs h.0, ascends-by_view xs h.1)

  view-add : (ys : List A) (x : A) → map view (add by_view ys x) ≡ add cmp (map view ys) (view x)
  view-add [] x = refl
  view-add (y ∷ ys) x = go (cmp (view y) (view x)) (view-add ys x)
    where
      go : (r : Ordering) → map view (add by_view ys x) ≡ add cmp (map view ys) (view x)
          → map view (match_ordering r (y ∷ add by_view ys x) (y ∷ ys) (x ∷ y ∷ ys)) ≡ match_ordering r (view y ∷ add cmp (map view ys) (view x)) (view y ∷ map view ys) (view x ∷ view y ∷ map view ys)
      go Less e = ap (λ l. view y ∷ l) e
      go Equal e = refl
      go Greater e = refl

  pub view-union : (xs ys : List A) → map view (union by_view xs ys) ≡ union cmp (map view xs) (map view ys)
  view-union xs [] = refl
  view-union xs (y ∷ ys) = view-union (add by_view xs y) ys ∙ ap (λ l. union cmp l (map view ys)) (view-add xs y)

  view-has : (ys : List A) (x : A) → has by_view ys x ≡ has cmp (map view ys) (view x)
  view-has [] x = refl
  view-has (y ∷ ys) x = go (is_eq (cmp (view y) (view x))) (view-has ys x)
    where
      go : (b : Bool) → has by_view ys x ≡ has cmp (map view ys) (view x) → is_some (cond b (Some y) (find by_view ys x)) ≡ is_some (cond b (Some (view y)) (find cmp (map view ys) (view x)))
      go true e = refl
      go false e = e

  view-filter : (p : A → Bool) (q : B → Bool) → ((x : A) → p x ≡ q (view x)) → (xs : List A) → map view (filter p xs) ≡ filter q (map view xs)
  view-filter p q e [] = refl
  view-filter p q e (x ∷ xs) = rw (e x) (go (q (view x)) (view-filter p q e xs))
    where
      go : (b : Bool) → map view (filter p xs) ≡ filter q (map view xs) → map view (cond b (x ∷ filter p xs) (filter p xs)) ≡ cond b (view x ∷ filter q (map view xs)) (filter q (map view xs))
      go true h = ap (λ l. view x ∷ l) h
      go false h = h

  pub view-intersection : (xs ys : List A) → map view (intersection by_view xs ys) ≡ intersection cmp (map view xs) (map view ys)
  view-intersection xs ys = view-filter (has by_view ys) (has cmp (map view ys)) (view-has ys) xs

  pub view-difference : (xs ys : List A) → map view (difference by_view xs ys) ≡ difference cmp (map view xs) (map view ys)
  view-difference xs ys = view-filter (λ x. not (has by_view ys x)) (λ x. not (has cmp (map view ys) x)) (λ x. ap not (view-has ys x)) xs

  pub view-symmetric_difference : (xs ys : List A) → map view (symmetric_difference by_view xs ys) ≡ symmetric_difference cmp (map view xs) (map view ys)
  view-symmetric_difference xs ys = view-union (difference by_view xs ys) (difference by_view ys xs) ∙ ap₂ (union cmp) (view-difference xs ys) (view-difference ys xs)

  module _ (left both right : Bool) where
    view-if : (b : Bool) (xs : List A) → map view (cond b xs []) ≡ cond b (map view xs) []
    view-if true xs = refl
    view-if false xs = refl

    view-keep : (b : Bool) (x : A) (xs : List A) (ys : List B) → map view xs ≡ ys → map view (keep b x xs) ≡ keep b (view x) ys
    view-keep true x xs ys e = ap (λ l. view x ∷ l) e
    view-keep false x xs ys e = e

    view-walk_from : (x : A) (xs : List A) (on : List A → List A) (on' : List B → List B) → ((ys : List A) → map view (on ys) ≡ on' (map view ys)) → (ys : List A)
        → map view (walk_from by_view left both right x xs on ys) ≡ walk_from cmp left both right (view x) (map view xs) on' (map view ys)
    view-walk_from x xs on on' same [] = view-if left (x ∷ xs)
    view-walk_from x xs on on' same (y ∷ ys) = go (cmp (view x) (view y)) (same (y ∷ ys)) (same ys) (view-walk_from x xs on on' same ys)
      where
        go : (r : Ordering) → map view (on (y ∷ ys)) ≡ on' (view y ∷ map view ys) → map view (on ys) ≡ on' (map view ys) → map view (walk_from by_view left both right x xs on ys) ≡ walk_from cmp left both right (view x) (map view xs) on' (map view ys)
            → map view (match_ordering r (keep left x (on (y ∷ ys))) (keep both x (on ys)) (keep right y (walk_from by_view left both right x xs on ys)))
            ≡ match_ordering r (keep left (view x) (on' (view y ∷ map view ys))) (keep both (view x) (on' (map view ys))) (keep right (view y) (walk_from cmp left both right (view x) (map view xs) on' (map view ys)))
        go Less e f g = view-keep left x _ _ e
        go Equal e f g = view-keep both x _ _ f
        go Greater e f g = view-keep right y _ _ g

    pub view-walk : (xs ys : List A) → map view (walk by_view left both right xs ys) ≡ walk cmp left both right (map view xs) (map view ys)
    view-walk [] ys = view-if right ys
    view-walk (x ∷ xs) ys = view-walk_from x xs (walk by_view left both right xs) (walk cmp left both right (map view xs)) (view-walk xs) ys
