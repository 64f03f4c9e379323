-- One element of a heap moves down to its place.
use Rattle.std.proofs.Common.{◌≡◌, ℕ, zero, suc, ◌+◌, ◌-◌, ◌*◌, ◌/◌, ◌<◌, ◌≤◌, ⊎_elim, inl, inr, Bool, true, false, List, length, slice_index_or, slice_set, swap_remove, refl, ◌∙◌, arith}
use Rattle.std.specs.Cmp.{IsStrictWeakOrder}
use Rattle.std.specs.List.{SwappedAt, AllZip}
use Rattle.std.proofs.lemmas.Bool.{cases_eq, cases_Bool}
use Rattle.std.proofs.lemmas.List.{length-set, get_or-set_other, get_or-take, length-take-le}
use Rattle.std.proofs.lemmas.List.Elements.{length_all_zip, AllZip-get_or}
use Rattle.ordered_lists.specs.Heaps.{IsChild, IsHeapFrom, IsHeap, IsHeapBut, IsLeastChild}

pub below_child : (i c : ℕ) → IsChild i c → i < c
below_child i c k = ⊎_elim (λ e. omega (arith, e)) (λ e. omega (arith, e)) k

one_above : (i j c : ℕ) → IsChild i c → IsChild j c → i ≡ j
one_above i j c a b = ⊎_elim (λ e. ⊎_elim (λ f. omega (arith, e, f)) (λ f. omega (arith, e, f)) b) (λ e. ⊎_elim (λ f. omega (arith, e, f)) (λ f. omega (arith, e, f)) b) a

above : (c : ℕ) → 0 < c → IsChild ((c - 1) / 2) c
above c pos = ⊎_elim (λ e. inl e) (λ n. inr (second n)) (cases_eq c (2 * ((c - 1) / 2) + 1))
  where
    second : (c ≡ 2 * ((c - 1) / 2) + 1 → ⊥) → c ≡ 2 * ((c - 1) / 2) + 2
    second n = omega (arith, pos, n)

module _ {X : Type 0} {less : X → X → Bool} (o : IsStrictWeakOrder less) where
  not_itself : (x : X) → less x x ≡ false
  not_itself x = ⊎_elim (λ e. o.one_way x x e) (λ e. e) (cases_Bool (less x x))

  -- none is less than the first
  pub first_is_least : (xs : List X) → IsHeap less xs → (i : ℕ) (d : X) → i < length xs → less (slice_index_or xs i d) (slice_index_or xs 0 d) ≡ false
  first_is_least xs heap i d l = climb (suc i) i (omega arith) l
    where
      climb : (n i : ℕ) → i < n → i < length xs → less (slice_index_or xs i d) (slice_index_or xs 0 d) ≡ false
      climb zero i a l = absurd (omega arith)
      climb (suc n) zero a l = not_itself _
      climb (suc n) (suc i) a l =
          let up = above (suc i) (omega arith) in
          o.chain _ _ _ (heap ((suc i - 1) / 2) (suc i) d up (omega arith) l) (climb n ((suc i - 1) / 2) (omega (arith, a)) (omega (arith, l)))

module _ {X : Type 0} {less : X → X → Bool} (o : IsStrictWeakOrder less) (xs : List X) (from hole c : ℕ) (but : IsHeapBut less from hole xs) (k : IsLeastChild less hole c xs) where
  -- the lesser child goes up where it is less than the element at the hole, which is then a hole in its place
  pub moves_down : (ys : List X) → ((d : X) → less (slice_index_or xs c d) (slice_index_or xs hole d) ≡ true) → SwappedAt xs ys hole c → length ys ≡ length xs → IsHeapBut less from c ys
  moves_down ys up sw long = record { begins = omega (arith, but.begins, below); others = others; past = past }
    where
      below : hole < c
      below = below_child hole c k.child

      others : (i j : ℕ) (d : X) → IsChild i j → from ≤ i → j < length ys → (i ≡ c → ⊥) → less (slice_index_or ys j d) (slice_index_or ys i d) ≡ false
      others i j d ij low l not_c = ⊎_elim at_hole (λ n. elsewhere n) (cases_eq i hole)
        where
          in_xs : j < length xs
          in_xs = rw long at l

          at_hole : i ≡ hole → less (slice_index_or ys j d) (slice_index_or ys i d) ≡ false
          at_hole e = ⊎_elim
              (λ (f : j ≡ c). rw (f, e, sw.1 d, sw.0 d) (o.one_way _ _ (up d)))
              (λ (f : j ≡ c → ⊥). let g : j ≡ hole → ⊥ = λ h. absurd (omega (arith, below_child i j ij, e, h)) in rw (e, sw.0 d, sw.2 j d g f) (k.least j d (rw e at ij) in_xs))
              (cases_eq j c)

          elsewhere : (i ≡ hole → ⊥) → less (slice_index_or ys j d) (slice_index_or ys i d) ≡ false
          elsewhere n = ⊎_elim
              (λ (f : j ≡ hole). rw (f, sw.0 d, sw.2 i d n not_c) (but.past i c d (rw f at ij) k.child low k.within))
              (λ (f : j ≡ hole → ⊥). let g : j ≡ c → ⊥ = λ h. absurd (n (one_above i hole c (rw h at ij) k.child)) in rw (sw.2 j d f g, sw.2 i d n not_c) (but.others i j d ij low in_xs n))
              (cases_eq j hole)

      past : (i j : ℕ) (d : X) → IsChild i c → IsChild c j → from ≤ i → j < length ys → less (slice_index_or ys j d) (slice_index_or ys i d) ≡ false
      past i j d ic cj low l =
          let e : i ≡ hole = one_above i hole c ic k.child in
          let more : c < j = below_child c j cj in
          let g : j ≡ hole → ⊥ = λ h. absurd (omega (arith, below, more, h)) in
          let f : j ≡ c → ⊥ = λ h. absurd (omega (arith, more, h)) in
          let n : c ≡ hole → ⊥ = λ h. absurd (omega (arith, below, h)) in
          rw (e, sw.0 d, sw.2 j d g f) (but.others c j d cj (omega (arith, but.begins, below)) (rw long at l) n)

  -- else no child of it is less
  pub stays : ((d : X) → less (slice_index_or xs c d) (slice_index_or xs hole d) ≡ false) → IsHeapFrom less from xs
  stays h i j d ij low l = ⊎_elim (λ e. rw e (o.chain _ _ _ (k.least j d (rw e at ij) l) (h d))) (λ n. but.others i j d ij low l n) (cases_eq i hole)

module _ {X : Type 0} {less : X → X → Bool} (xs : List X) where
  -- the element at the hole has no child
  pub stays_last : (from hole : ℕ) → length xs / 2 ≤ hole → IsHeapBut less from hole xs → IsHeapFrom less from xs
  stays_last from hole far but i j d ij low l = but.others i j d ij low l (λ e. absurd (no_child e))
    where
      no_child : i ≡ hole → ⊥
      no_child e = ⊎_elim (λ f. absurd (omega (arith, e, f, l, far))) (λ f. absurd (omega (arith, e, f, l, far))) ij

  -- one element more, in front of those that are a heap
  pub one_before : (k : ℕ) → IsHeapFrom less (k + 1) xs → IsHeapBut less k k xs
  one_before k h = record {
    begins = omega arith;
    others = λ i c d ic low l n. h i c d ic (omega (arith, low, n)) l;
    past = λ i c d ik kc low l. absurd (omega (arith, below_child i k ik, low));
  }

  -- Of a heap whose first element is another one, no element is less than the one above it, where that isn't the first. Nor where the
  -- list is shorter, and its first element is another one again.
  pub other_first : (ys : List X) → IsHeapBut less 0 0 xs → length ys ≤ length xs → ((k : ℕ) (d : X) → 0 < k → k < length ys → slice_index_or ys k d ≡ slice_index_or xs k d) → IsHeapBut less 0 0 ys
  other_first ys h short same = record {
    begins = omega arith;
    others = λ i c d ic low l n.
        let below = below_child i c ic in
        let pos : 0 < i = omega (arith, n) in
        rw (same c d (omega (arith, below)) l, same i d pos (omega (arith, below, l))) (h.others i c d ic (omega arith) (omega (arith, l, short)) n);
    past = λ i c d ik kc low l. absurd (omega (arith, below_child i 0 ik));
  }

  pub first_set : (x : X) → IsHeap less xs → IsHeapBut less 0 0 (slice_set xs 0 x)
  first_set x h =
      let long = length-set xs 0 x in
      let but : IsHeapBut less 0 0 xs = record {
        begins = omega arith;
        others = λ i c d ic low l n. h i c d ic low l;
        past = λ i c d ik kc low l. absurd (omega (arith, below_child i 0 ik));
      } in
      other_first (slice_set xs 0 x) but (omega (arith, long)) (λ k d pos l. get_or-set_other xs 0 k x d (λ e. absurd (omega (arith, pos, e))))

  -- the last one went into the place of the first
  pub first_removed : (x : X) → IsHeapBut less 0 0 xs → IsHeapBut less 0 0 (swap_remove xs 0 x)
  first_removed x h =
      let set_first = slice_set xs 0 (slice_index_or xs (length xs - 1) x) in
      let long = length-set xs 0 (slice_index_or xs (length xs - 1) x) in
      let short = length-take-le (length xs - 1) set_first (omega (arith, long)) in
      other_first (swap_remove xs 0 x) h (omega (arith, short))
      (λ k d pos l. get_or-take (length xs - 1) set_first k d (omega (arith, l, short)) ∙ get_or-set_other xs 0 k (slice_index_or xs (length xs - 1) x) d (λ e. absurd (omega (arith, pos, e))))

-- lists whose elements compare alike are both heaps
pub heap_alike : {X : Type 0} {less : X → X → Bool} {Like : X → X → Type 0} (xs ys : List X) → AllZip Like xs ys → ((x u y v : X) → Like x y → Like u v → less y v ≡ less x u) → IsHeap less xs → IsHeap less ys
heap_alike {Like = Like} xs ys z same heap i c d ic low l =
    let long = length_all_zip Like xs ys z in
    let in_xs : c < length xs = omega (arith, l, long) in
    same _ _ _ _ (AllZip-get_or Like xs ys c d d z in_xs) (AllZip-get_or Like xs ys i d d z (omega (arith, in_xs, below_child i c ic))) ∙ heap i c d ic low in_xs
