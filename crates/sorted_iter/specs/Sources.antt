-- When the items of a source are in order: what a caller cites at `assume_sorted_by_item`.
use Rattle.std.proofs.Common.{◌≡◌, suc, List, [], ◌∷◌, ◌++◌, Option, Some, None, length, sym, ap, subst, ◌∙◌, arith, map}
use Rattle.std.specs.Iterator.{Yields, YieldsFirstBy}
use Rattle.std.specs.List.Sorted.{IsStrictlySortedBy}
use Rattle.std.specs.declared.cmp.Ordering.{Ordering}
use Rattle.std.specs.declared.vec.IntoIter.{IntoIter}
use Rattle.std.specs.declared.slice.Iter.{Iter}
use Rattle.std.specs.declared.iter.Copied.{Copied}
use Rattle.std.specs.Vec.Iter.{into_iter_steps, into_iter_items, into_iter_len}
use Rattle.std.specs.Slice.Iter.{iter_rest, iter_steps}
use Rattle.std.specs.Iterator.Adapters.{copied_steps, copied_source}
use Rattle.std.specs.Map.Iter.{deref}
use Rattle.std.specs.Borrow.{Bor}
use Rattle.std.specs.Option.{option_copied}
use Rattle.ordered_lists.proofs.WalkLemmas.{ascends-front}
use Rattle.ordered_lists.proofs.ViewLemmas.{ascends-by_view}
use Rattle.sorted_iter.specs.Orders.{InOrder}
use Rattle.sorted_iter.specs.Laws.{over_rests}

-- the items of an iterator, which `view` reads, are the front of a list that its state shows; `Over` holds once it has ended
module _ {S A B : Type 0} (view : A → B) (steps : S → Option A → S → Type 0) (rest : S → List B) (Over : S → Type 0)
    (gives : (s t : S) (x : A) → steps s (Some x) t → (rest s ≡ view x ∷ rest t) × (Over s → ⊥)) (ends : (s t : S) → steps s None t
    → Over t) where
  shown : (xs : List A) (s t : S) → Yields steps s xs t → rest s ≡ map view xs ++ rest t
  shown [] s t e = ap rest e
  shown (x ∷ xs) s t e = (gives s e.0 x e.1).0 ∙ ap (λ l. view x ∷ l) (shown xs e.0 t e.2)

  pub in_order-of_rest : (cmp : B → B → Ordering) (s : S) → IsStrictlySortedBy cmp (rest s) → InOrder (λ x y. cmp (view x) (view y)) steps s
  in_order-of_rest cmp s h = record {
    ascends = λ xs t e. ascends-by_view view cmp xs (ascends-front cmp (map view xs) (rest t)
        (subst (IsStrictlySortedBy cmp) (shown xs s t e) h));
    stays_ended = λ xs t n u x v e f g. (gives u v x g).1 (over_rests steps Over ends n t u (ends e.0 t e.2) f);
  }

-- references are compared by what they point to
abbrev pub IsOrderOfRefs : {X : Type 0} → (Bor X → Bor X → Ordering) → (X → X → Ordering) → Type 0
IsOrderOfRefs {X} at_refs cmp = (x y : Bor X) → cmp x.now y.now ≡ at_refs x y

by_refs : {S X : Type 0} (at_refs : Bor X → Bor X → Ordering) (cmp : X → X → Ordering) → IsOrderOfRefs at_refs cmp
    → (steps : S → Option (Bor X) → S → Type 0) (s : S)
    → InOrder (λ x y. cmp x.now y.now) steps s → InOrder at_refs steps s
by_refs at_refs cmp same steps s h = let alike : (λ x y. cmp x.now y.now)
    ≡ at_refs = λ i x y. same x y i in subst (λ f. InOrder f steps s) alike h

-- `Vec::into_iter`
pub InOrder-from_into_iter : {X Z : Type 0} (cmp : X → X → Ordering) (it : IntoIter X Z) (xs : List X) → into_iter_items it ≡ xs
    → IsStrictlySortedBy cmp xs → InOrder cmp (into_iter_steps {X = X} {Z = Z}) it
InOrder-from_into_iter {X} {Z} cmp it xs e h = in_order-of_rest (λ x. x) (into_iter_steps {X = X} {Z = Z}) into_iter_items
    (λ s. into_iter_len s ≡ 0)
    (λ s t x k. (k.0, λ z. let l = k.1 in omega arith)) (λ s t k. k.1) cmp it (subst (IsStrictlySortedBy cmp) (sym e) h)

module _ {X : Type 0} where
  gives_ref : (s t : Iter X) (x : Bor X) → iter_steps s (Some x) t → (iter_rest s ≡ x.now ∷ iter_rest t) × (length (iter_rest s) ≡ 0 → ⊥)
  gives_ref s t x k = (k, λ g. let e : length (iter_rest s) ≡ suc (length (iter_rest t)) = ap length k in omega arith)

  ends_ref : (s t : Iter X) → iter_steps s None t → length (iter_rest t) ≡ 0
  ends_ref s t k = ap (λ z. length (iter_rest z)) k.1 ∙ k.0

  -- `iter` of a slice, in the order of references
  pub InOrder-from_iter : (at_refs : Bor X → Bor X → Ordering) (cmp : X → X → Ordering) (it : Iter X) (xs : List X) → iter_rest it ≡ xs
      → IsStrictlySortedBy cmp xs → IsOrderOfRefs at_refs cmp → InOrder at_refs (iter_steps {A = X}) it
  InOrder-from_iter at_refs cmp it xs e h same = by_refs at_refs cmp same (iter_steps {A = X}) it
      (in_order-of_rest (λ x. x.now) (iter_steps {A = X}) iter_rest (λ s. length (iter_rest s) ≡ 0) gives_ref ends_ref cmp it
      (subst (IsStrictlySortedBy cmp) (sym e) h))

  gives_copy : (s t : Iter X) (x : X) (o : Option (Bor X)) → iter_steps s o t → Some x ≡ option_copied o
      → (iter_rest s ≡ x ∷ iter_rest t) × (length (iter_rest s) ≡ 0 → ⊥)
  gives_copy s t x None k e = absurd cc
  gives_copy s t x (Some y) k e = let f : x ≡ y.now = cc in let g = gives_ref s t y k in (g.0 ∙ ap (λ z. z ∷ iter_rest t) (sym f), g.1)

  ends_copy : (s t : Iter X) (o : Option (Bor X)) → iter_steps s o t → None ≡ option_copied o → length (iter_rest t) ≡ 0
  ends_copy s t None k e = ends_ref s t k
  ends_copy s t (Some y) k e = absurd cc

  -- `iter().copied()` of a slice
  pub InOrder-from_copied : (cmp : X → X → Ordering) (it : Copied (Iter X)) (xs : List X) → iter_rest (copied_source it) ≡ xs
      → IsStrictlySortedBy cmp xs → InOrder cmp (copied_steps (iter_steps {A = X})) it
  InOrder-from_copied cmp it xs e h = in_order-of_rest (λ x. x) (copied_steps (iter_steps {A = X})) (λ s. iter_rest (copied_source s))
      (λ s. length (iter_rest (copied_source s)) ≡ 0)
      (λ s t x k. gives_copy (copied_source s) (copied_source t) x k.0 k.1 k.2)
      (λ s t k. ends_copy (copied_source s) (copied_source t) k.0 k.1 k.2) cmp it (subst (IsStrictlySortedBy cmp) (sym e) h)

-- an iterator that is seen as the list of what is left, and gives references to its items in turn
module _ {X : Type 0} where
  nothing_left : (s : List X) → s ≡ [] → length s ≡ 0
  nothing_left s e = ap length e

  some_left : (s t : List X) (x : X) → s ≡ x ∷ t → length s ≡ 0 → ⊥
  some_left s t x e g = let h : length s ≡ suc (length t) = ap length e in omega arith

  -- in the order of references
  pub InOrder-from_shown : (at_refs : Bor X → Bor X → Ordering) (cmp : X → X → Ordering) (it xs : List X) → it ≡ xs
      → IsStrictlySortedBy cmp xs → IsOrderOfRefs at_refs cmp → InOrder at_refs (YieldsFirstBy deref (λ left. left)) it
  InOrder-from_shown at_refs cmp it xs e h same = by_refs at_refs cmp same (YieldsFirstBy deref (λ left. left)) it
      (in_order-of_rest deref (YieldsFirstBy deref (λ left. left)) (λ left. left) (λ s. length s ≡ 0)
      (λ s t x k. (k, some_left s t x.now k)) (λ s t k. nothing_left t k.1) cmp it (subst (IsStrictlySortedBy cmp) (sym e) h))

  gives_shown : (s t : List X) (x : X) (o : Option (Bor X)) → YieldsFirstBy deref (λ left. left) s o t → Some x ≡ option_copied o
      → (s ≡ x ∷ t) × (length s ≡ 0 → ⊥)
  gives_shown s t x None k e = absurd cc
  gives_shown s t x (Some y) k e = let f : x ≡ y.now = cc in let g : s ≡ x ∷ t = k ∙ ap (λ z. z ∷ t) (sym f) in (g, some_left s t x g)

  ends_shown : (s t : List X) (o : Option (Bor X)) → YieldsFirstBy deref (λ left. left) s o t → None ≡ option_copied o → length t ≡ 0
  ends_shown s t None k e = nothing_left t k.1
  ends_shown s t (Some y) k e = absurd cc

  -- the same under `copied`
  pub InOrder-from_shown_copied : (cmp : X → X → Ordering) (it : Copied (List X)) (xs : List X) → copied_source it ≡ xs
      → IsStrictlySortedBy cmp xs → InOrder cmp (copied_steps (YieldsFirstBy deref (λ left. left))) it
  InOrder-from_shown_copied cmp it xs e h = in_order-of_rest (λ x. x) (copied_steps (YieldsFirstBy deref (λ left. left))) copied_source
      (λ s. length (copied_source s) ≡ 0)
      (λ s t x k. gives_shown (copied_source s) (copied_source t) x k.0 k.1 k.2)
      (λ s t k. ends_shown (copied_source s) (copied_source t) k.0 k.1 k.2) cmp it (subst (IsStrictlySortedBy cmp) (sym e) h)

pub ruleset sources = (InOrder-from_into_iter, InOrder-from_iter, InOrder-from_copied, InOrder-from_shown, InOrder-from_shown_copied)
