-- The lists of joins whose keys and values are references: what these point to.
use Rattle.std.proofs.Common.{◌≡◌, Bool, true, false, cond, List, [], ◌∷◌, ◌++◌, map, Option, Some, None, refl, sym, ap, ap₂, subst, ◌∙◌}
use Rattle.std.specs.Borrow.{Bor}
use Rattle.std.specs.Iterator.{Yields, DrainsIf, AlwaysYields}
use Rattle.std.specs.List.Sorted.{IsStrictlySortedBy}
use Rattle.std.specs.Map.Iter.{TakesFirst, deref_pair}
use Rattle.std.specs.Option.{option_map}
use Rattle.std.specs.Ordering.{is_eq}
use Rattle.std.specs.declared.cmp.Ordering.{Ordering}
use Rattle.std.proofs.iter.runs.Made.{run, took, seen}
use Rattle.std.proofs.lemmas.Iterator.{items_from_drains}
use Rattle.ordered_lists.specs.Joins.{found, having_both, if_both, join, left_join}
use Rattle.ordered_lists.specs.Lists.{by_key, to_key, find}
use Rattle.ordered_lists.proofs.ViewLemmas.{ascends-by_view}
use Rattle.sorted_iter.specs.Orders.{Begins}
use Rattle.sorted_iter.proofs.RefLists.{all_runs, front_of, begins-map, pointing}
use Rattle.sorted_pairs.specs.AssumedStreams.{assumed_source, assumed_steps}
use Rattle.sorted_pairs.specs.Joined.{JoinsRuns}
use Rattle.sorted_pairs.specs.declared.assumed.AssumeSortedByKey.{AssumeSortedByKey}

-- the items still to come read as xs
pub record GivesSeen {S A D : Type 0} (view : A → D) (steps : S → Option A → S → Type 0) (s : S) (xs : List D) : Type 0 where
  pub runs : AlwaysYields steps view s xs

-- an iterator that is seen as the list of what it has left
module _ {A X : Type 0} (shows : A → X) where
  shown : (l : List X) → AlwaysYields (TakesFirst shows) shows l l
  shown [] = λ x j k. let e : [] ≡ shows x ∷ j = k in absurd cc
  shown (y ∷ l) = (
    (λ j k. let e : y ∷ l ≡ [] = k.0 in absurd cc),
    λ x j k.
        let e : y ∷ l ≡ shows x ∷ j = k in
        let f : j ≡ l = cc in
        (cc, subst (λ v. AlwaysYields (TakesFirst shows) shows v l) (sym f) (shown l)),
  )

  pub seen-of_shown : (s xs : List X) → s ≡ xs → GivesSeen shows (TakesFirst shows) s xs
  seen-of_shown s xs e = record { runs = subst (AlwaysYields (TakesFirst shows) shows s) e (shown s) }

-- an iterator that was handed to `assume_sorted_by_key`
module _ {S A D : Type 0} (view : A → D) (steps : S → Option A → S → Type 0) where
  assumed : (xs : List D) (s : AssumeSortedByKey S) → AlwaysYields steps view (assumed_source s) xs → AlwaysYields (assumed_steps steps) view s xs
  assumed [] s h = λ x j k. h x (assumed_source j) k
  assumed (x ∷ xs) s h = ((λ j k. h.0 (assumed_source j) k), λ y j k. let m = h.1 y (assumed_source j) k in (m.0, assumed xs j m.1))

  pub seen-of_assumed : (s : AssumeSortedByKey S) (x : S) (xs : List D) → assumed_source s ≡ x → GivesSeen view steps x xs → GivesSeen view (assumed_steps steps) s xs
  seen-of_assumed s x xs e h = record { runs = assumed xs s (subst (λ k. AlwaysYields steps view k xs) (sym e) h.runs) }

-- a loop over a stream whose items read as a list
pub seen-of_loop : {S A D : Type 0} (view : A → D) {steps : S → Option A → S → Type 0} {s t u : S} {all : List D} (xs : List A) → GivesSeen view steps s all → Yields steps s xs t → steps t None u → map view xs ≡ all
seen-of_loop view {steps} {s} {t} {u} xs h y e = items_from_drains {steps = steps} {v = view} {s = s} xs (t, y, λ _. (u, e)) (record { runs = h.runs })

module _ {K V W : Type 0} where
  -- what the items of the joins point to
  abbrev pub deref_both : Bor K × (Bor V × Bor W) → K × (V × W)
  deref_both p = (p.0.now, (p.1.0.now, p.1.1.now))

  abbrev pub deref_left : Bor K × (Bor V × Option (Bor W)) → K × (V × Option W)
  deref_left p = (p.0.now, (p.1.0.now, option_map (λ (r : Bor W). r.now) p.1.1))

-- references to keys, compared by these
abbrev at_refs : {K : Type 0} → (K → K → Ordering) → Bor K → Bor K → Ordering
at_refs cmp j k = cmp j.now k.now

module _ {K W : Type 0} (cmp : K → K → Ordering) where
  view-found : (ys : List (Bor K × Bor W)) (k : Bor K) → option_map (λ (r : Bor W). r.now) (found (at_refs cmp) ys k) ≡ found cmp (map deref_pair ys) k.now
  view-found [] k = refl
  view-found (y ∷ ys) k = go (is_eq (cmp y.0.now k.now)) (view-found ys k)
    where
      go : (b : Bool) → option_map (λ (r : Bor W). r.now) (found (at_refs cmp) ys k) ≡ found cmp (map deref_pair ys) k.now
          → option_map (λ (r : Bor W). r.now) (option_map (λ (p : Bor K × Bor W). p.1) (cond b (Some y) (find (to_key (at_refs cmp)) ys k))) ≡ option_map (λ (p : K × W). p.1) (cond b (Some (deref_pair y)) (find (to_key cmp) (map deref_pair ys) k.now))
      go true h = refl
      go false h = h

module _ {K V W : Type 0} (cmp : K → K → Ordering) where
  view-left_join : (xs : List (Bor K × Bor V)) (ys : List (Bor K × Bor W)) → map deref_left (left_join (at_refs cmp) xs ys) ≡ left_join cmp (map deref_pair xs) (map deref_pair ys)
  view-left_join [] ys = refl
  view-left_join (x ∷ xs) ys = ap₂ (λ r l. (x.0.now, (x.1.now, r)) ∷ l) (view-found cmp ys x.0) (view-left_join xs ys)

  view-having : (ps : List (Bor K × (Bor V × Option (Bor W)))) → map deref_both (having_both ps) ≡ having_both (map deref_left ps)
  view-having [] = refl
  view-having (p ∷ ps) = go p.1.1 (view-having ps)
    where
      go : (r : Option (Bor W)) → map deref_both (having_both ps) ≡ having_both (map deref_left ps)
          → map deref_both (if_both p.0 p.1.0 r (having_both ps)) ≡ if_both p.0.now p.1.0.now (option_map (λ (q : Bor W). q.now) r) (having_both (map deref_left ps))
      go None h = h
      go (Some w) h = ap (λ l. (p.0.now, (p.1.0.now, w.now)) ∷ l) h

  view-join : (xs : List (Bor K × Bor V)) (ys : List (Bor K × Bor W)) → map deref_both (join (at_refs cmp) xs ys) ≡ join cmp (map deref_pair xs) (map deref_pair ys)
  view-join xs ys = view-having (left_join (at_refs cmp) xs ys) ∙ ap having_both (view-left_join xs ys)

  module _ {S T U C D : Type 0} (view : C → D) (steps : U → Option C → U → Type 0) (s : U) (firsts : S → Option (Bor K × Bor V) → S → Type 0) (x : S) (seconds : T → Option (Bor K × Bor W) → T → Type 0) (y : T) where
    -- from the clause `runs` of a join
    seen-of_runs : (f : List (Bor K × Bor V) → List (Bor K × Bor W) → List C) (g : List (K × V) → List (K × W) → List D) → ((us : List (Bor K × Bor V)) (vs : List (Bor K × Bor W)) → map view (f us vs) ≡ g (map deref_pair us) (map deref_pair vs))
        → JoinsRuns (at_refs cmp) f steps s firsts x seconds y → (xs : List (K × V)) (ys : List (K × W)) → GivesSeen deref_pair firsts x xs → GivesSeen deref_pair seconds y ys → IsStrictlySortedBy (by_key cmp) xs → IsStrictlySortedBy (by_key cmp) ys → GivesSeen view steps s (g xs ys)
    seen-of_runs f g natural runs xs ys left right c d = record {
      runs = all_runs view steps (g xs ys) s (λ zs w ran.
          let r = runs.behind (run steps s zs w ran) (seen _) refl in
          let a = r.0 in
          let b = r.2.0 in
          let i = front_of deref_pair firsts (λ p. (pointing p.0, pointing p.1)) (λ _. refl) a.items xs x a.whole left.runs (subst (λ k. DrainsIf firsts (a.whole ≡ true) k a.items) r.1 (took a)) in
          let j = front_of deref_pair seconds (λ p. (pointing p.0, pointing p.1)) (λ _. refl) b.items ys y b.whole right.runs (subst (λ k. DrainsIf seconds (b.whole ≡ true) k b.items) r.2.1 (took b)) in
          let u = ascends-by_view deref_pair (by_key cmp) (a.items ++ i.0) (subst (IsStrictlySortedBy (by_key cmp)) (sym i.2) c) in
          let v = ascends-by_view deref_pair (by_key cmp) (b.items ++ j.0) (subst (IsStrictlySortedBy (by_key cmp)) (sym j.2) d) in
          subst (Begins w (map view zs)) (natural (a.items ++ i.0) (b.items ++ j.0) ∙ ap₂ g i.2 j.2) (begins-map view w zs _ (r.2.2.front i.0 j.0 i.1 j.1 u v)));
    }

  module _ {S T U : Type 0} (firsts : S → Option (Bor K × Bor V) → S → Type 0) (x : S) (seconds : T → Option (Bor K × Bor W) → T → Type 0) (y : T) where
    pub seen-of_join : {steps : U → Option (Bor K × (Bor V × Bor W)) → U → Type 0} {s : U} → JoinsRuns (at_refs cmp) (join (at_refs cmp)) steps s firsts x seconds y → (xs : List (K × V)) (ys : List (K × W)) → GivesSeen deref_pair firsts x xs → GivesSeen deref_pair seconds y ys
        → IsStrictlySortedBy (by_key cmp) xs → IsStrictlySortedBy (by_key cmp) ys → GivesSeen deref_both steps s (join cmp xs ys)
    seen-of_join {steps} {s} = seen-of_runs deref_both steps s firsts x seconds y (join (at_refs cmp)) (join cmp) view-join

    pub seen-of_left_join : {steps : U → Option (Bor K × (Bor V × Option (Bor W))) → U → Type 0} {s : U} → JoinsRuns (at_refs cmp) (left_join (at_refs cmp)) steps s firsts x seconds y → (xs : List (K × V)) (ys : List (K × W)) → GivesSeen deref_pair firsts x xs → GivesSeen deref_pair seconds y ys
        → IsStrictlySortedBy (by_key cmp) xs → IsStrictlySortedBy (by_key cmp) ys → GivesSeen deref_left steps s (left_join cmp xs ys)
    seen-of_left_join {steps} {s} = seen-of_runs deref_left steps s firsts x seconds y (left_join (at_refs cmp)) (left_join cmp) view-left_join
