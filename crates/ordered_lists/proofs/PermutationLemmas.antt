-- A list whose elements `f` reads: where what is read stands in another order, so may the elements.
use Rattle.std.proofs.Common.{◌≡◌, ℕ, zero, suc, List, [], ◌∷◌, map, set, get_or, All, IsPermutation, refl, sym, ap, ap₂, subst, ◌∙◌}
use Rattle.std.specs.List.{swap}
use Rattle.std.specs.List.Sorted.{apply_swaps, SwapsInRange}
use Rattle.std.proofs.lemmas.List.{length-map, map-set}
use Rattle.std.proofs.lemmas.List.Elements.{All-nil, All-cons, All-head, All-tail}

module _ {X Y : Type 0} (f : X → Y) where
  read : (xs : List X) (i : ℕ) (d : X) → get_or (map f xs) i (f d) ≡ f (get_or xs i d)
  read [] i d = refl
  read (x ∷ xs) zero d = refl
  read (x ∷ xs) (suc i) d = read xs i d

  read_swap : (xs : List X) (i j : ℕ) → map f (swap xs i j) ≡ swap (map f xs) i j
  read_swap [] i j = refl
  read_swap (x ∷ xs) i j =
      let l : List X = x ∷ xs in
      map-set f (set l i (get_or l j x)) j (get_or l i x)
      ∙ ap₂ (λ ys y. set ys j y) (map-set f l i (get_or l j x) ∙ ap (set (map f l) i) (sym (read l j x))) (sym (read l i x))

  read_swaps : (xs : List X) (moves : List (ℕ × ℕ)) → map f (apply_swaps xs moves) ≡ apply_swaps (map f xs) moves
  read_swaps xs [] = refl
  read_swaps xs (p ∷ moves) = read_swap (apply_swaps xs moves) p.0 p.1 ∙ ap (λ l. swap l p.0 p.1) (read_swaps xs moves)

  -- the elements of xs in the order ys of what is read of them
  pub in_order_of : (xs : List X) (ys : List Y) → IsPermutation (map f xs) ys → (zs : List X) × (map f zs ≡ ys) × IsPermutation xs zs
  in_order_of xs ys p = (apply_swaps xs p.moves, read_swaps xs p.moves ∙ sym p.is, record { moves = p.moves; below = subst (λ n. SwapsInRange n p.moves) (length-map xs f) p.below; is = refl })

  -- what holds of all that is read
  pub of_read : (P : Y → Type 0) (xs : List X) → All P (map f xs) → All (λ x. P (f x)) xs
  of_read P [] h = All-nil (λ x. P (f x))
  of_read P (x ∷ xs) h = All-cons (λ x. P (f x)) x xs (All-head P (f x) (map f xs) h) (of_read P xs (All-tail P (f x) (map f xs) h))
