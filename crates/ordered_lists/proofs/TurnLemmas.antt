-- An item that is pushed behind a list, and turned to the front of the part from a place on, is put in at that place.
use borrow.Rule.Slice.PartMut.{mid_of, post_of, put_mid}
use Rattle.std.proofs.Common.{◌≡◌, ℕ, ◌+◌, ◌-◌, ◌≤◌, List, [], ◌∷◌, ◌++◌, length, take, drop, ap, ◌∙◌, arith}
use Rattle.std.proofs.Math.Seq.{take-append_seam, drop-append_seam}
use Rattle.std.proofs.lemmas.List.{take-append-le, drop-append-le, drop_all, take_all, append-nil, length-append, length-drop}
use Rattle.std.proofs.lemmas.List.Edits.{length-insert}
use Rattle.std.specs.List.{insert}
use Rattle.ordered_lists.proofs.RetainLemmas.{take_front}

module _ {X : Type 0} where
  -- the last item of a list, turned to its front
  abbrev pub turned : List X → List X
  turned xs = drop (length xs - 1) xs ++ take (length xs - 1) xs

  turned_one : (xs : List X) (x : X) → turned (xs ++ x ∷ []) ≡ x ∷ xs
  turned_one xs x =
      let before : length (xs ++ x ∷ []) - 1 ≡ length xs = omega (arith, length-append xs (x ∷ [])) in
      ap (λ n. drop n (xs ++ x ∷ []) ++ take n (xs ++ x ∷ [])) before ∙ (λ i. drop-append_seam xs (x ∷ []) i ++ take-append_seam xs (x ∷ []) i)

  -- `all` is xs with x behind it, and ys what its part from i on is turned to
  pub turned_in : (xs all ys rest : List X) (x : X) (i n : ℕ) → i ≤ length xs → all ≡ xs ++ x ∷ [] → n ≡ length all → ys ≡ turned (mid_of i (length all - i) all)
      → take n (put_mid i (length all - i) all ys ++ rest) ≡ insert xs i x
  turned_in xs all ys rest x i n le is len turn =
      let long : length all ≡ length xs + 1 = ap length is ∙ length-append xs (x ∷ []) in
      let part : mid_of i (length all - i) all ≡ drop i xs ++ x ∷ [] =
      take_all (length all - i) (drop i all) (omega (arith, length-drop i all)) ∙ ap (drop i) is ∙ drop-append-le i xs (x ∷ []) le in
      let first : take i all ≡ take i xs = ap (take i) is ∙ take-append-le i xs (x ∷ []) le in
      let none : post_of i (length all - i) all ≡ [] = drop_all (length all - i) (drop i all) (omega (arith, length-drop i all)) in
      let now : ys ≡ x ∷ drop i xs = turn ∙ ap turned part ∙ turned_one (drop i xs) x in
      let whole : put_mid i (length all - i) all ys ≡ insert xs i x = (λ j. first j ++ (now j ++ none j)) ∙ ap (λ l. take i xs ++ l) (append-nil (x ∷ drop i xs)) in
      ap (λ l. take n (l ++ rest)) whole ∙ take_front (insert xs i x) rest n (omega (arith, len, long, length-insert xs i x le))
