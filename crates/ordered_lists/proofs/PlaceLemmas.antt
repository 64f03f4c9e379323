-- What placing an item does to the order of a list.
use Rattle.std.proofs.Common.{◌≡◌, List, [], ◌∷◌, refl, ap, ◌∙◌}
use Rattle.std.specs.List.{AllByRecursion}
use Rattle.std.specs.List.Sorted.{IsStrictlySortedBy}
use Rattle.std.specs.Cmp.{IsTotalOrder}
use Rattle.std.specs.declared.cmp.Ordering.{Ordering}
use Rattle.std.specs.declared.cmp.Ordering.TheVariants.{Less, Equal, Greater}
use Rattle.std.specs.Ordering.{match_ordering, ordering_reverse}
use Rattle.ordered_lists.specs.Lists.{set}

pub all_map : {A : Type 0} (P Q : A → Type 0) → ((x : A) → P x → Q x) → (xs : List A) → AllByRecursion P xs → AllByRecursion Q xs
all_map P Q f [] h = tt
all_map P Q f (x ∷ xs) h = (f x h.0, all_map P Q f xs h.1)

-- a fact of each of the three answers of a comparison
pub by_order : {B : Type 0} (P : B → Type 0) (r : Ordering) (a b c : B) → (r ≡ Less → P a) → (r ≡ Equal → P b) → (r ≡ Greater → P c)
    → P (match_ordering r a b c)
by_order P Less a b c f g h = f refl
by_order P Equal a b c f g h = g refl
by_order P Greater a b c f g h = h refl

module _ {A : Type 0} {cmp : A → A → Ordering} (o : IsTotalOrder cmp) where
  pub greater_less : (x y : A) → cmp x y ≡ Greater → cmp y x ≡ Less
  greater_less x y h = o.antisymm y x ∙ ap ordering_reverse h

  pub equal_back : (x y : A) → cmp x y ≡ Equal → cmp y x ≡ Equal
  equal_back x y h = o.antisymm y x ∙ ap ordering_reverse h

  pub below_all : (x y : A) (ys : List A) → cmp x y ≡ Less → AllByRecursion (λ z. cmp y z ≡ Less) ys → AllByRecursion (λ z. cmp x z ≡ Less) ys
  below_all x y ys h all = all_map (λ z. cmp y z ≡ Less) (λ z. cmp x z ≡ Less) (λ z l. o.trans x y z h l) ys all

  pub level_all : (x y : A) (ys : List A) → cmp x y ≡ Equal → AllByRecursion (λ z. cmp y z ≡ Less) ys → AllByRecursion (λ z. cmp x z ≡ Less) ys
  level_all x y ys h all = all_map (λ z. cmp y z ≡ Less) (λ z. cmp x z ≡ Less) (λ z l. o.congr x y z h ∙ l) ys all

  -- what is below all items and below x is below all of them after x is placed
  pub all_set : (P : A → Type 0) (xs : List A) (x : A) → P x → AllByRecursion P xs → AllByRecursion P (set cmp xs x)
  all_set P [] x p all = (p, tt)
  all_set P (y ∷ ys) x p all = by_order (AllByRecursion P) (cmp y x) _ _ _ (λ _. (all.0, all_set P ys x p all.1)) (λ _. (p, all.1)) (λ _. (p, all))

  pub set_ascends : (xs : List A) (x : A) → IsStrictlySortedBy cmp xs → IsStrictlySortedBy cmp (set cmp xs x)
  unfolding IsStrictlySortedBy
  set_ascends [] x h = (tt, tt)
  set_ascends (y ∷ ys) x h = by_order (IsStrictlySortedBy cmp) (cmp y x) _ _ _
      (λ e. (all_set (λ z. cmp y z ≡ Less) ys x e h.0, set_ascends ys x h.1))
      (λ e. (level_all x y ys (equal_back y x e) h.0, h.1))
      (λ e. let l = greater_less y x e in ((l, below_all x y ys l h.0), h))
