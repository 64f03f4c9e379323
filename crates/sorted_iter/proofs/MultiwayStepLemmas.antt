-- A call of `next` is a row of items that go out.
use Rattle.std.proofs.Common.{◌≡◌, Option, false, List, [], ◌∷◌, ◌++◌, slice_index_or, All, refl, sym, ap, ◌∙◌, subst}
use Rattle.std.specs.Cmp.{IsTotalOrder}
use Rattle.std.specs.List.{AllByRecursion}
use Rattle.std.specs.Ordering.{is_lt, is_eq, ordering_reverse}
use Rattle.std.specs.declared.cmp.Ordering.{Ordering}
use Rattle.std.specs.declared.cmp.Ordering.TheVariants.{Less, Equal, Greater}
use Rattle.std.proofs.lemmas.Cmp.{alike_right}
use Rattle.std.proofs.lemmas.List.Elements.{All-nil, All-head, All-from_get_or}
use Rattle.ordered_lists.specs.Heaps.{IsHeap}
use Rattle.sorted_iter.specs.declared.multiway.heads.InputHead.{InputHead}
use Rattle.sorted_iter.specs.MultiwayHeads.{before, starts_with, TakesLeast}
use Rattle.sorted_iter.specs.MultiwaySteps.{TakesEach}
use Rattle.sorted_iter.proofs.MultiwayTakeLemmas.{least}

pub all-more : {A : Type 0} (P : A → Type 0) (xs : List A) (x : A) → AllByRecursion P xs → P x → AllByRecursion P (xs ++ x ∷ [])
all-more P [] x h p = (p, tt)
all-more P (y ∷ xs) x h p = (h.0, all-more P xs x h.1 p)

-- neither equal nor below is above
above_of : (r : Ordering) → is_eq r ≡ false → is_lt (ordering_reverse r) ≡ false → r ≡ Less
above_of Less e l = refl
above_of Equal e l = cc
above_of Greater e l = cc

module _ {S A : Type 0} {cmp : A → A → Ordering} (o : IsTotalOrder cmp) (steps : S → Option A → S → Type 0) where
  pub takes-more : (xs : List A) (hs js ks : List (InputHead S A)) (y : A) → TakesEach cmp steps hs xs js → TakesLeast cmp steps js y ks → TakesEach cmp steps hs (xs ++ y ∷ []) ks
  takes-more [] hs js ks y e t = (ks, subst (λ z. TakesLeast cmp steps z y ks) (sym e) t, refl)
  takes-more (x ∷ xs) hs js ks y e t = (e.0, e.1, takes-more xs e.0 js ks y e.2 t)

  -- x is below y, and z is not below y
  below_least : (x y z : A) → cmp x y ≡ Less → is_lt (cmp z y) ≡ false → cmp x z ≡ Less
  below_least x y z l n = go (cmp y z) refl
    where
      go : (r : Ordering) → cmp y z ≡ r → cmp x z ≡ Less
      go Less e = o.trans x y z l e
      go Equal e = sym (alike_right o y z x e) ∙ l
      go Greater e = let f : cmp z y ≡ Less = o.antisymm z y ∙ ap ordering_reverse e in absurd (cc)

  -- where the first head isn't equal to x and no head is below x, each is above it
  pub above_left : (hs : List (InputHead S A)) (x : A) → IsHeap (before cmp) hs → starts_with cmp hs x ≡ false → All (λ k. is_lt (cmp k.item x) ≡ false) hs → All (λ k. cmp x k.item ≡ Less) hs
  above_left [] x heap s a = All-nil (λ k. cmp x k.item ≡ Less)
  above_left (h ∷ hs) x heap s a =
      let first = All-head (λ k. is_lt (cmp k.item x) ≡ false) h hs a in
      let up : cmp x h.item ≡ Less = above_of (cmp x h.item) s (ap is_lt (sym (o.antisymm h.item x)) ∙ first) in
      let low = least o steps h hs heap in
      All-from_get_or (λ k. cmp x k.item ≡ Less) (h ∷ hs) h (λ i l. below_least x h.item (slice_index_or (h ∷ hs) i h).item up (low i h l))
