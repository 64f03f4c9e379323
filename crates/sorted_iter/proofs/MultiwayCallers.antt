-- What a caller of `multiway_union` cites.
use Rattle.std.proofs.Common.{◌≡◌, ℕ, zero, suc, List, [], ◌∷◌, Option, IfSome, IfOk, Ok, Err, Result, Vec, All, true, refl, sym, subst, ◌∙◌, vec_items, slice_get}
use Rattle.std.proofs.iter.runs.Made.{run, took, seen, each}
use Rattle.std.proofs.lemmas.Iterator.{IsCollectResult}
use Rattle.std.proofs.lemmas.List.Elements.{All-head, All-tail}
use Rattle.std.specs.Iterator.{Yields, Count, IsFinite}
use Rattle.std.specs.Cmp.{IsTotalOrder}
use Rattle.std.proofs.lemmas.Cmp.{tied_itself}
use Rattle.std.specs.declared.cmp.Ordering.TheVariants.{Equal}
use Rattle.std.specs.Iterator.Runs.{EachRunFrom, AllItems}
use Rattle.std.specs.List.{AllZip}
use Rattle.std.specs.Vec.Iter.{into_iter_steps, into_iter_items}
use Rattle.std.specs.declared.vec.IntoIter.{IntoIter}
use Rattle.std.specs.declared.cmp.Ordering.{Ordering}
use Rattle.sorted_iter.specs.Orders.{GivesList}
use Rattle.ordered_lists.specs.Multiway.{IsMultiwayUnion}
use Rattle.sorted_iter.specs.declared.multiway.heads.InputHead.{InputHead}
use Rattle.sorted_iter.specs.TwoSidesLemmas.{Through, through-yields}
use Rattle.sorted_iter.specs.MultiwayClones.{ComesAlike}
use Rattle.sorted_iter.specs.MultiwaySteps.{multi_steps, MultiListsAre}

module _ {S Z : Type 0} (P : S → Type 0) where
  all-taken : (xs : List S) (s t : IntoIter S Z) → Yields (into_iter_steps {X = S} {Z = Z}) s xs t → All P (into_iter_items s) → (k : ℕ) → IfSome (slice_get xs k) P
  all-taken [] s t y a k = tt
  all-taken (x ∷ xs) s t y a zero = All-head P x (into_iter_items y.0) (subst (All P) y.1.0 a)
  all-taken (x ∷ xs) s t y a (suc k) = all-taken xs y.0 t y.2 (All-tail P x (into_iter_items y.0) (subst (All P) y.1.0 a)) k

  -- what holds of each input in a vector
  pub all-of_vec : (it : IntoIter S Z) (xs : List S) → into_iter_items it ≡ xs → All P xs → EachRunFrom (into_iter_steps {X = S} {Z = Z}) it (λ p. AllItems p P)
  all-of_vec it xs e a p on at = each p P (all-taken p.items p.from (took p).0 (took p).1 (subst (λ s. All P (into_iter_items s)) (sym at) (subst (All P) (sym e) a)))

module _ {S A T : Type 0} {cmp : A → A → Ordering} {steps : S → Option A → S → Type 0} {its : List S} (inner : T → List (InputHead S A)) (ls : List (List A)) where
  -- what `collect` gives
  pub union-of_collect : {Z E : Type 0} {s : T} (r : Result (Vec A Z) E) → MultiListsAre cmp (multi_steps cmp steps) (inner s) steps its → AllZip (GivesList steps) its ls
      → IsCollectResult (Through inner (multi_steps cmp steps)) s r → IfOk r (λ w. IsMultiwayUnion cmp ls (vec_items w))
  union-of_collect {s = s} (Ok w) h z c =
      let p = run (multi_steps cmp steps) (inner s) c.0 true (inner c.1.0, through-yields inner (multi_steps cmp steps) c.0 s c.1.0 c.1.1, λ _. (inner (c.1.2 tt).0, (c.1.2 tt).1)) in
      subst (IsMultiwayUnion cmp ls) (sym c.2.0) (h.give ls z p (seen _) refl refl)
  union-of_collect (Err e) h z c = tt

  -- what `collect` of a clone gives: the items of a union, up to equality
  pub union-of_copy : {Z E : Type 0} (s t : T) {can : List (InputHead S A) → Type 0} {left : List (InputHead S A) → Count} (r : Result (Vec A Z) E)
      → MultiListsAre cmp (multi_steps cmp steps) (inner s) steps its → AllZip (GivesList steps) its ls → ComesAlike can left cmp (multi_steps cmp steps) (inner s) (inner t)
      → IsCollectResult (Through inner (multi_steps cmp steps)) t r → IfOk r (λ w. (m : List A) × IsMultiwayUnion cmp ls m × AllZip (λ x y. cmp x y ≡ Equal) m (vec_items w))
  union-of_copy s t (Ok w) h z alike c =
      let p = run (multi_steps cmp steps) (inner t) c.0 true (inner c.1.0, through-yields inner (multi_steps cmp steps) c.0 t c.1.0 c.1.1, λ _. (inner (c.1.2 tt).0, (c.1.2 tt).1)) in
      let q = alike.runs p (seen _) refl in
      (q.0.items, h.give ls z q.0 (seen _) q.1 q.2.whole, subst (AllZip (λ x y. cmp x y ≡ Equal) q.0.items) (sym c.2.0) q.2.items)
  union-of_copy s t (Err e) h z alike c = tt

-- a clone that is the stream itself
pub same_comes_alike : {S A : Type 0} {cmp : A → A → Ordering} → IsTotalOrder cmp → (steps : S → Option A → S → Type 0) (can : S → Type 0) (left : S → Count) (s t : S) → t ≡ s → ComesAlike can left cmp steps s t
same_comes_alike {cmp = cmp} o steps can left s t e = record {
  callable = λ h. subst can (sym e) h;
  ends = λ h. subst (λ z. IsFinite (left z)) (sym e) h;
  runs = λ p on at. (p, at ∙ e, record { items = itself p.items; whole = refl });
}
  where
    itself : (xs : List _) → AllZip (λ x y. cmp x y ≡ Equal) xs xs
    itself [] = tt
    itself (x ∷ xs) = (tied_itself o x, itself xs)
