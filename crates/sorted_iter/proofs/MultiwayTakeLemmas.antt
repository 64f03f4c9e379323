-- The first head of a heap goes on, or leaves.
use Rattle.std.proofs.Common.{◌≡◌, ℕ, suc, ◌+◌, ◌-◌, ◌<◌, inl, inr, Bool, false, List, [], ◌∷◌, ◌++◌, length, slice_index_or, slice_set, swap_remove, Option, Some, None, All, IsPermutation, T, true, ◌&&◌, refl, sym, ◌∙◌, subst, arith}
use Rattle.std.specs.Cmp.{IsTotalOrder, IsStrictWeakOrder}
use Rattle.std.specs.Iterator.{Count, IsFinite, size, MakesProgress}
use Rattle.std.specs.List.{list_all}
use Rattle.std.specs.Ordering.{is_lt}
use Rattle.std.specs.declared.cmp.Ordering.{Ordering}
use Rattle.std.proofs.lemmas.List.{get_or_default}
use Rattle.std.proofs.lemmas.List.Elements.{All-nil, All-cons, All-head, All-tail, All-append, All-from_get_or}
use Rattle.std.proofs.lemmas.List.Sorted.{ranks_by, All-permutation, IsPermutation-refl, IsPermutation-swap_remove, sum_by-IsPermutation, sum_by_popped}
use Rattle.std.proofs.lemmas.List.Sums.{sum_by-append}
use Rattle.ordered_lists.specs.Heaps.{IsHeap}
use Rattle.ordered_lists.proofs.HeapLemmas.{first_is_least}
use Rattle.sorted_iter.specs.declared.multiway.heads.InputHead.{InputHead}
use Rattle.sorted_iter.specs.MultiwayHeads.{before, can_go, heads_left, heads_count, GoesOn, TakesLeast}

-- what `swap_remove(0)` leaves doesn't hang on the first element
swap_remove-any : {X : Type 0} (xs : List X) (x y : X) → swap_remove (x ∷ xs) 0 x ≡ swap_remove (y ∷ xs) 0 y
swap_remove-any [] x y = refl
swap_remove-any (z ∷ xs) x y =
    let e : length (z ∷ xs) ≡ suc (length xs) = refl in
    let n : suc (length (z ∷ xs)) - 1 ≡ suc (length xs) = omega arith in
    rw (n, get_or_default (z ∷ xs) (length xs) x y (omega arith)) refl

-- an order on items is one on heads
pub heads-order : (S : Type 0) {A : Type 0} {cmp : A → A → Ordering} → IsTotalOrder cmp → IsStrictWeakOrder (before {S = S} cmp)
heads-order S o = ranks_by o (λ h. h.item)

module _ {S A : Type 0} {cmp : A → A → Ordering} (o : IsTotalOrder cmp) (steps : S → Option A → S → Type 0) where
  -- no head has a lesser item than the first
  pub least : (h : InputHead S A) (hs : List (InputHead S A)) → IsHeap (before cmp) (h ∷ hs) → All (λ k. is_lt (cmp k.item h.item) ≡ false) (h ∷ hs)
  least h hs heap = All-from_get_or (λ k. is_lt (cmp k.item h.item) ≡ false) (h ∷ hs) h (λ i l. first_is_least (heads-order S o) (h ∷ hs) heap i h l)

module _ {S A : Type 0} {cmp : A → A → Ordering} (o : IsTotalOrder cmp) (steps : S → Option A → S → Type 0) (can : S → Type 0) (left : S → Count) where
  -- what holds after one head went on as `one`
  took : (hs others one ks : List (InputHead S A)) (h : InputHead S A) → IsPermutation hs (h ∷ others) → IsPermutation (one ++ others) ks → All (can_go can left) hs
      → All (can_go can left) one → heads_left left one < size (left h.rest) + 1 → All (can_go can left) ks × (heads_left left ks < heads_left left hs)
  took hs others one ks h p q all fresh less =
      let rest = All-tail (can_go can left) h others (All-permutation (can_go can left) hs (h ∷ others) p all) in
      let f : InputHead S A → ℕ = λ k. size (left k.rest) + 1 in (
        All-permutation (can_go can left) (one ++ others) ks q (All-append (can_go can left) one others fresh rest),
        omega (arith, sum_by_popped f h hs others p, sum_by-IsPermutation f (one ++ others) ks q, sum_by-append f one others, less),
      )

  -- it has another item
  pub took_on : (hs ks : List (InputHead S A)) (h k : InputHead S A) (x : A) → 0 < length hs → h ≡ slice_index_or hs 0 h → IsPermutation (slice_set hs 0 k) ks → IsHeap (before cmp) hs → All (can_go can left) hs
      → GoesOn steps h (Some x) k → MakesProgress can left h.rest (Some x) k.rest
      → All (can_go can left) ks × TakesLeast cmp steps hs x ks × (heads_left left ks < heads_left left hs)
  took_on [] ks h k x pos e p heap all g m = absurd (omega arith)
  took_on (y ∷ hs) ks h k x pos e p heap all g m =
      let e' : y ≡ h = sym e in
      let own = All-head (can_go can left) y hs all in
      let fin : IsFinite (left h.rest) = subst (λ z. IsFinite (left z.rest)) e' own.1 in
      let on = m.on fin in
      let q : IsPermutation ((k ∷ []) ++ hs) ks = p in
      let t = took (y ∷ hs) hs (k ∷ []) ks y (IsPermutation-refl (y ∷ hs)) q all (All-cons (can_go can left) k [] (on.0, on.1) (All-nil (can_go can left)))
      (rw e' (omega (arith, on.2))) in
      let low = All-tail (λ z. is_lt (cmp z.item y.item) ≡ false) y hs (least o steps y hs heap) in (
        t.0,
        (y, hs, k ∷ [], IsPermutation-refl (y ∷ hs), rw (e', g.0) refl, rw (g.0, sym e') low, inr (k.item, k.rest, rw e' g.1, refl), q),
        t.1,
      )

  -- its input has ended
  pub took_last : (hs rest ks : List (InputHead S A)) (h k r : InputHead S A) → 0 < length hs → h ≡ slice_index_or hs 0 h → r ≡ slice_index_or (slice_set hs 0 k) 0 r → rest ≡ swap_remove (slice_set hs 0 k) 0 r
      → IsPermutation rest ks → IsHeap (before cmp) hs → All (can_go can left) hs → GoesOn steps h None k
      → All (can_go can left) ks × TakesLeast cmp steps hs r.item ks × (heads_left left ks < heads_left left hs)
  took_last [] rest ks h k r pos e f s p heap all g = absurd (omega arith)
  took_last (y ∷ hs) rest ks h k r pos e f s p heap all g =
      let e' : y ≡ h = sym e in
      let item : y.item ≡ r.item = rw (e', f) (sym g.1) in
      let same : rest ≡ swap_remove (y ∷ hs) 0 y = s ∙ rw f (swap_remove-any hs k y) in
      let perm : IsPermutation (y ∷ hs) (y ∷ rest) = rw same (IsPermutation-swap_remove (y ∷ hs) 0 y (omega arith) refl) in
      let t = took (y ∷ hs) rest [] ks y perm p all (All-nil (can_go can left)) (omega arith) in
      let low = All-tail (λ z. is_lt (cmp z.item y.item) ≡ false) y rest (All-permutation (λ z. is_lt (cmp z.item y.item) ≡ false) (y ∷ hs) (y ∷ rest) perm (least o steps y hs heap)) in (
        t.0,
        (y, rest, [], perm, item, rw (sym item) low, inl (k.rest, rw e' g.0, refl), p),
        t.1,
      )

-- heads whose inputs end have a bound
pub finite_heads : {S A : Type 0} (can : S → Type 0) (left : S → Count) (hs : List (InputHead S A)) → All (can_go {A = A} can left) hs → IsFinite (heads_count left hs)
finite_heads can left [] a = tt
finite_heads {S} {A} can left (h ∷ hs) a = both (left h.rest).bounded (list_all (λ (k : InputHead S A). (left k.rest).bounded) hs) (All-head (can_go can left) h hs a).1 (finite_heads can left hs (All-tail (can_go can left) h hs a))
  where
    both : (x y : Bool) → T x → T y → T (x && y)
    both true y p q = q
    both false y p q = absurd p
