-- When the clones of an iterator give what the iterator gives: what a caller cites at `try_clone`.
use Rattle.std.proofs.Common.{◌≡◌, ℕ, suc, zero, List, [], ◌∷◌, Option, Some, None, length, refl, sym, ap, subst, ◌∙◌}
use Rattle.std.specs.Iterator.{Count, IsFinite, Yields}
use Rattle.std.specs.Iterator.Adapters.{copied_steps, copied_source}
use Rattle.std.specs.Slice.Iter.{iter_rest, iter_steps}
use Rattle.std.specs.Borrow.{Bor}
use Rattle.std.specs.declared.slice.Iter.{Iter}
use Rattle.std.specs.declared.iter.Copied.{Copied}
use Rattle.sorted_iter.specs.Orders.{Rests}
use Rattle.std.specs.Option.{option_copied}
use Rattle.sorted_iter.specs.declared.marks.AssumeSortedByItem.{AssumeSortedByItem}
use Rattle.sorted_iter.specs.Streams.{assumed_source, assumed_steps}
use Rattle.sorted_iter.specs.Copies.{ClonesGoAlike}

-- whatever a call on a clone does, a call on its source may do, and what they leave are a clone and its source again
module _ {S A : Type 0} (clones : S → S → Type 0) (can : S → Type 0) (left : S → Count) (steps : S → Option A → S → Type 0)
    (callable : (s t : S) → clones s t → can s → can t) (finite : (s t : S) → clones s t → IsFinite (left s) → IsFinite (left t))
    (follows : (s t u : S) (r : Option A) → clones s t → steps t r u → (v : S) × steps s r v × clones v u) where
  yields-follow : (xs : List A) (s t u : S) → clones s t → Yields steps t xs u → (v : S) × Yields steps s xs v × clones v u
  yields-follow [] s t u c e = (s, refl, subst (clones s) e c)
  yields-follow (x ∷ xs) s t u c e =
      let f = follows s t e.0 (Some x) c e.1 in
      let m = yields-follow xs f.0 e.0 u f.2 e.2 in
      (m.0, (f.0, f.1, m.1), m.2)

  rests-follow : (n : ℕ) (s t u : S) → clones s t → Rests steps n t u → (v : S) × Rests steps n s v × clones v u
  rests-follow zero s t u c e = (s, refl, subst (clones s) e c)
  rests-follow (suc n) s t u c e =
      let f = follows s t e.0 None c e.1 in
      let m = rests-follow n f.0 e.0 u f.2 e.2 in
      (m.0, (f.0, f.1, m.1), m.2)

  pub clones-by_steps : ClonesGoAlike clones can left steps
  clones-by_steps = record {
    alike = λ s t c. record {
      callable = callable s t c;
      finite = finite s t c;
      ends = λ h. record {
        ended = λ xs a n u x v e f k.
            let i = yields-follow xs s t e.0 c e.1 in
            let j = follows i.0 e.0 a None i.2 e.2 in
            let l = rests-follow n j.0 a u j.2 f in
            let m = follows l.0 u v (Some x) l.2 k in
            h.ended xs j.0 n l.0 x m.0 (i.0, i.1, j.1) l.1 m.1;
      };
      same = λ xs w d.
          let i = yields-follow xs s t d.0 c d.1 in
          (i.0, i.1, λ e. let j = follows i.0 d.0 (d.2 e).0 None i.2 (d.2 e).1 in (j.0, j.1));
    };
  }

-- an iterator that copies what the iterator of a slice gives, which `it` is
module _ {S X : Type 0} (it : S → Iter X) where
  abbrev pub slice_steps : S → Option X → S → Type 0
  slice_steps s r t = (o : Option (Bor X)) × iter_steps (it s) o (it t) × (r ≡ option_copied o)

  slice-follows : (s t u : S) (r : Option X) (o : Option (Bor X)) → iter_rest (it t) ≡ iter_rest (it s) → iter_steps (it t) o (it u)
      → r ≡ option_copied o → (v : S) × slice_steps s r v × (iter_rest (it u) ≡ iter_rest (it v))
  slice-follows s t u r None c k e = (s, (None, (ap length (sym c) ∙ k.0, refl), e), ap iter_rest k.1 ∙ c)
  slice-follows s t u r (Some x) c k e = (u, (Some x, sym c ∙ k, e), refl)

  pub clones-of_slice : (can : S → Type 0) (left : S → Count) → ((s t : S) → can s → can t)
      → ((s t : S) → IsFinite (left s) → IsFinite (left t)) → ClonesGoAlike (λ s t. iter_rest (it t) ≡ iter_rest (it s)) can left
      slice_steps
  clones-of_slice can left callable finite = clones-by_steps (λ s t. iter_rest (it t) ≡ iter_rest (it s)) can left slice_steps
      (λ s t c k. callable s t k) (λ s t c k. finite s t k) (λ s t u r c k. slice-follows s t u r k.0 c k.1 k.2)

module _ {X : Type 0} where
  -- `iter().copied()` of a slice
  pub clones-of_copied : (can : Copied (Iter X) → Type 0) (left : Copied (Iter X) → Count) → ((s t : Copied (Iter X)) → can s → can t)
      → ((s t : Copied (Iter X)) → IsFinite (left s) → IsFinite (left t))
      → ClonesGoAlike (λ s t. iter_rest (copied_source t) ≡ iter_rest (copied_source s)) can left (copied_steps (iter_steps {A = X}))
  clones-of_copied = clones-of_slice copied_source

  -- the same, handed to `assume_sorted_by_item`
  pub clones-of_listed : (can : AssumeSortedByItem (Copied (Iter X)) → Type 0) (left : AssumeSortedByItem (Copied (Iter X)) → Count)
      → ((s t : AssumeSortedByItem (Copied (Iter X))) → can s → can t)
      → ((s t : AssumeSortedByItem (Copied (Iter X))) → IsFinite (left s) → IsFinite (left t))
      → ClonesGoAlike (λ s t. iter_rest (copied_source (assumed_source t)) ≡ iter_rest (copied_source (assumed_source s))) can left
      (assumed_steps (copied_steps (iter_steps {A = X})))
  clones-of_listed = clones-of_slice (λ s. copied_source (assumed_source s))
