-- The lists that sources give, and what a caller learns who collects a stream or loops over it.
use Rattle.std.proofs.Common.{◌≡◌, true, List, [], ◌∷◌, Option, Some, None, length, map-id, refl, sym, ap, subst, ◌∙◌, arith}
use Rattle.std.specs.Prelude.{IfOk, Result}
use Rattle.std.specs.Iterator.{Yields, YieldsFirstBy, DrainsIf, AlwaysYields}
use Rattle.std.specs.Iterator.Runs.{Run, EveryRun, ItemsAre}
use Rattle.std.specs.Map.Iter.{TakesFirst, deref}
use Rattle.std.specs.Iterator.Adapters.{copied_steps, copied_source}
use Rattle.std.specs.Option.{option_copied}
use Rattle.std.specs.Borrow.{Bor}
use Rattle.std.specs.Slice.Iter.{iter_rest, iter_steps}
use Rattle.std.specs.Vec.{vec_items}
use Rattle.std.specs.Vec.Iter.{into_iter_steps, into_iter_items}
use Rattle.std.specs.declared.vec.Vec.{Vec}
use Rattle.std.specs.declared.vec.IntoIter.{IntoIter}
use Rattle.std.specs.declared.slice.Iter.{Iter}
use Rattle.std.specs.declared.iter.Copied.{Copied}
use Rattle.std.proofs.iter.runs.Made.{run, took, seen}
use Rattle.std.proofs.lemmas.Iterator.{items_from_drains, items_from_collect, IsCollectResult}
use Rattle.sorted_iter.specs.Orders.{GivesList}

-- an iterator whose state shows the list of what is left
module _ {S A : Type 0} (steps : S → Option A → S → Type 0) (rest : S → List A) (gives : (s t : S) (x : A) → steps s (Some x) t → rest s ≡ x ∷ rest t) where
  -- it gives that list where it ends once the list is empty
  pub list-of_rest : ((s t : S) → steps s None t → rest s ≡ []) → (xs : List A) (s : S) → rest s ≡ xs → AlwaysYields steps (λ x. x) s xs
  list-of_rest ends [] s e = λ x j k. let f : [] ≡ x ∷ rest j = sym e ∙ gives s j x k in absurd cc
  list-of_rest ends (y ∷ ys) s e = (
    λ j k. let f : [] ≡ y ∷ ys = sym (ends s j k) ∙ e in absurd cc,
    λ x j k. let f : y ∷ ys ≡ x ∷ rest j = sym e ∙ gives s j x k in let g : rest j ≡ ys = cc in (cc, list-of_rest ends ys j g),
  )

pub list-of_into_iter : {X Z : Type 0} (it : IntoIter X Z) (xs : List X) → into_iter_items it ≡ xs → EveryRun (into_iter_steps {X = X} {Z = Z}) (λ p. ItemsAre p (into_iter_items p.from)) → GivesList (into_iter_steps {X = X} {Z = Z}) it xs
list-of_into_iter {X} {Z} it xs e runs = record { runs = list-of_rest (into_iter_steps {X = X} {Z = Z}) into_iter_items (λ s t x k. k.0) ends xs it e }
  where
    ends : (s t : IntoIter X Z) → into_iter_steps {X = X} {Z = Z} s None t → into_iter_items s ≡ []
    ends s t k = sym ((runs (run (into_iter_steps {X = X} {Z = Z}) s [] true (s, refl, λ _. (t, k))) (seen _)).4 refl)

pub list-of_copied : {X : Type 0} (it : Copied (Iter X)) (xs : List X) → iter_rest (copied_source it) ≡ xs → GivesList (copied_steps (iter_steps {A = X})) it xs
list-of_copied {X} it xs e = record { runs = list-of_rest (copied_steps (iter_steps {A = X})) (λ s. iter_rest (copied_source s)) (λ s t x k. one (copied_source s) (copied_source t) x k.0 k.1 k.2) (λ s t k. none (copied_source s) (copied_source t) k.0 k.1 k.2) xs it e }
  where
    one : (s t : Iter X) (x : X) (o : Option (Bor X)) → iter_steps s o t → Some x ≡ option_copied o → iter_rest s ≡ x ∷ iter_rest t
    one s t x None k e = absurd cc
    one s t x (Some y) k e = let f : x ≡ y.now = cc in k ∙ ap (λ z. z ∷ iter_rest t) (sym f)

    empty : (l : List X) → length l ≡ 0 → l ≡ []
    empty [] h = refl
    empty (x ∷ l) h = absurd (omega arith)

    none : (s t : Iter X) (o : Option (Bor X)) → iter_steps s o t → None ≡ option_copied o → iter_rest s ≡ []
    none s t None k e = empty (iter_rest s) k.0
    none s t (Some y) k e = absurd cc

-- an iterator that is seen as the list of what is left, under `copied`
pub list-of_shown_copied : {X : Type 0} (it : Copied (List X)) (xs : List X) → copied_source it ≡ xs → GivesList (copied_steps (YieldsFirstBy deref (λ left. left))) it xs
list-of_shown_copied {X} it xs e = record { runs = list-of_rest (copied_steps (YieldsFirstBy deref (λ left. left))) copied_source (λ s t x k. one (copied_source s) (copied_source t) x k.0 k.1 k.2) (λ s t k. none (copied_source s) (copied_source t) k.0 k.1 k.2) xs it e }
  where
    one : (s t : List X) (x : X) (o : Option (Bor X)) → YieldsFirstBy deref (λ left. left) s o t → Some x ≡ option_copied o → s ≡ x ∷ t
    one s t x None k e = absurd cc
    one s t x (Some y) k e = let f : x ≡ y.now = cc in k ∙ ap (λ z. z ∷ t) (sym f)

    none : (s t : List X) (o : Option (Bor X)) → YieldsFirstBy deref (λ left. left) s o t → None ≡ option_copied o → s ≡ []
    none s t None k e = k.0
    none s t (Some y) k e = absurd cc

-- the iterator of a `BTreeSet` that is given up
pub list-of_owned : {K : Type 0} (it xs : List K) → it ≡ xs → GivesList (TakesFirst (λ (k : K). k)) it xs
list-of_owned {K} it xs e = record { runs = list-of_rest (TakesFirst (λ (k : K). k)) (λ l. l) (λ s t x k. k) (λ s t k. k.0) xs it e }

-- a whole run has the list
pub items-of_run : {S A : Type 0} {steps : S → Option A → S → Type 0} {s : S} {xs : List A} (p : Run steps) → p.from ≡ s → p.whole ≡ true → GivesList steps s xs → p.items ≡ xs
items-of_run {S} {A} {steps} {s} {xs} p e w h =
    let d = subst (λ k. DrainsIf steps (p.whole ≡ true) k p.items) e (took p) in
    sym (map-id p.items) ∙ items_from_drains {steps = steps} {v = λ x. x} {s = s} p.items (d.0, d.1, λ _. d.2 w) (record { runs = h.runs })

pub ruleset lists = (list-of_into_iter, list-of_copied, items-of_run)

-- `collect` of a stream that gives a list
pub items-of_collect : {S A Z E : Type 0} {steps : S → Option A → S → Type 0} {s : S} {all : List A} (r : Result (Vec A Z) E) → GivesList steps s all → IsCollectResult steps s r → IfOk r (λ w. vec_items w ≡ all)
items-of_collect {steps = steps} {s = s} r h k = items_from_collect {steps = steps} {s = s} r k (record { runs = h.runs })

-- a loop over a stream that gives a list
pub items-of_loop : {S A : Type 0} {steps : S → Option A → S → Type 0} {s t u : S} {all : List A} (xs : List A) → GivesList steps s all → Yields steps s xs t → steps t None u → xs ≡ all
items-of_loop {steps = steps} {s} {t} {u} xs h y e = sym (map-id xs) ∙ items_from_drains {steps = steps} {v = λ x. x} {s = s} xs (t, y, λ _. (u, e)) (record { runs = h.runs })
