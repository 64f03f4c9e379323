-- A stream that is an iterator inside, seen through a view of its items: it goes on alike where that does.
use Rattle.std.proofs.Common.{◌≡◌, ℕ, suc, zero, Bool, true, List, [], ◌∷◌, Option, Some, None, map, refl, ap, ap₂, subst}
use Rattle.std.specs.Iterator.{Count, Yields, DrainsIf}
use Rattle.sorted_iter.specs.Orders.{Rests, StaysEnded}
use Rattle.sorted_iter.specs.Copies.{GoesAlike}

module _ {U S A B : Type 0} (inner : U → S) (back : S → U) (view : B → A) (unview : A → B) (outer : U → Option B → U → Type 0) (steps : S → Option A → S → Type 0) (home : (u : U) → back (inner u) ≡ u) (seen : (y : B) → unview (view y) ≡ y)
    (to : (s t : U) (y : B) → outer s (Some y) t → steps (inner s) (Some (view y)) (inner t)) (to_none : (s t : U) → outer s None t → steps (inner s) None (inner t))
    (from : (s t : S) (x : A) → steps s (Some x) t → outer (back s) (Some (unview x)) (back t)) (from_none : (s t : S) → steps s None t → outer (back s) None (back t)) where
  in_yields : (ys : List B) (s t : U) → Yields outer s ys t → Yields steps (inner s) (map view ys) (inner t)
  in_yields [] s t e = ap inner e
  in_yields (y ∷ ys) s t e = (inner e.0, to s e.0 y e.1, in_yields ys e.0 t e.2)

  out_yields : (xs : List A) (s t : S) → Yields steps s xs t → Yields outer (back s) (map unview xs) (back t)
  out_yields [] s t e = ap back e
  out_yields (x ∷ xs) s t e = (back e.0, from s e.0 x e.1, out_yields xs e.0 t e.2)

  in_rests : (n : ℕ) (s t : U) → Rests outer n s t → Rests steps n (inner s) (inner t)
  in_rests zero s t e = ap inner e
  in_rests (suc n) s t e = (inner e.0, to_none s e.0 e.1, in_rests n e.0 t e.2)

  out_rests : (n : ℕ) (s t : S) → Rests steps n s t → Rests outer n (back s) (back t)
  out_rests zero s t e = ap back e
  out_rests (suc n) s t e = (back e.0, from_none s e.0 e.1, out_rests n e.0 t e.2)

  viewed : (ys : List B) → map unview (map view ys) ≡ ys
  viewed [] = refl
  viewed (y ∷ ys) = ap₂ (λ a l. a ∷ l) (seen y) (viewed ys)

  in_drains : (ys : List B) (w : Bool) (s : U) → DrainsIf outer (w ≡ true) s ys → DrainsIf steps (w ≡ true) (inner s) (map view ys)
  in_drains ys w s d = (inner d.0, in_yields ys s d.0 d.1, λ e. (inner (d.2 e).0, to_none d.0 (d.2 e).0 (d.2 e).1))

  out_drains : (ys : List B) (w : Bool) (s : U) → DrainsIf steps (w ≡ true) (inner s) (map view ys) → DrainsIf outer (w ≡ true) s ys
  out_drains ys w s d =
      let y = subst (λ u. Yields outer u (map unview (map view ys)) (back d.0)) (home s) (out_yields (map view ys) (inner s) d.0 d.1) in
      (back d.0, subst (λ l. Yields outer s l (back d.0)) (viewed ys) y, λ e. (back (d.2 e).0, from_none d.0 (d.2 e).0 (d.2 e).1))

  pub inner-alike : (can : S → Type 0) (left : S → Count) (s t : U) → GoesAlike can left steps (inner s) (inner t) → GoesAlike (λ u. can (inner u)) (λ u. left (inner u)) outer s t
  inner-alike can left s t h = record {
    callable = h.callable;
    finite = h.finite;
    ends = λ z. record {
      ended = λ ys a n b y c e f g.
          let inside : StaysEnded steps (inner s) = record {
            ended = λ xs p m q x r i j k.
                z.ended (map unview xs) (back p) m (back q) (unview x) (back r) (back i.0, subst (λ u. Yields outer u (map unview xs) (back i.0)) (home s) (out_yields xs (inner s) i.0 i.1), from_none i.0 p i.2) (out_rests m p q j) (from q r x k);
          } in
          (h.ends inside).ended (map view ys) (inner a) n (inner b) (view y) (inner c) (inner e.0, in_yields ys t e.0 e.1, to_none e.0 a e.2) (in_rests n a b f) (to b c y g);
    };
    same = λ ys w d. out_drains ys w s (h.same (map view ys) w (in_drains ys w t d));
  }
