-- The lists of streams whose items are references: what they point to.
use Rattle.std.proofs.Common.{◌≡◌, Bool, true, false, List, [], ◌∷◌, ◌++◌, map, Option, None, refl, sym, ap, ap₂, subst, ◌∙◌, true≢false}
use Rattle.std.specs.Iterator.{Yields, DrainsIf, AlwaysYields}
use Rattle.std.specs.Map.Iter.{TakesFirst, deref}
use Rattle.std.specs.Borrow.{Bor}
use Rattle.std.specs.List.Sorted.{IsStrictlySortedBy}
use Rattle.std.specs.declared.cmp.Ordering.{Ordering}
use Rattle.std.proofs.iter.runs.Made.{run, took, seen}
use Rattle.std.proofs.lemmas.Iterator.{items_from_drains}
use Rattle.ordered_lists.specs.Lists.{union, intersection, difference, symmetric_difference}
use Rattle.ordered_lists.proofs.ViewLemmas.{by_view, ascends-by_view, view-union, view-intersection, view-difference, view-symmetric_difference}
use Rattle.sorted_iter.specs.Orders.{Begins, RunsAre}

-- the items still to come are references to those of xs
pub record GivesRefs {S X : Type 0} (steps : S → Option (Bor X) → S → Type 0) (s : S) (xs : List X) : Type 0 where
  pub runs : AlwaysYields steps (λ x. x.now) s xs

module _ {S A D : Type 0} (view : A → D) (steps : S → Option A → S → Type 0) where
  -- what each run begins is what always comes
  pub all_runs : (all : List D) (s : S) → ((zs : List A) (w : Bool) → DrainsIf steps (w ≡ true) s zs → Begins w (map view zs) all) → AlwaysYields steps view s all
  all_runs [] s h = λ x j k.
      let b = h (x ∷ []) false (j, (j, k, refl), λ e. absurd (true≢false (sym e))) in
      let e : [] ≡ view x ∷ b.0 = b.1 in
      absurd cc
  all_runs (z ∷ zs) s h = (
    (λ j k.
        let b = h [] true (s, refl, λ _. (j, k)) in
        let e : z ∷ zs ≡ [] = b.1 ∙ b.2 refl in
        absurd cc),
    λ x j k.
        let b = h (x ∷ []) false (j, (j, k, refl), λ e. absurd (true≢false (sym e))) in
        let e : z ∷ zs ≡ view x ∷ b.0 = b.1 in (
          cc,
          all_runs zs j (λ ws w d.
              let m = h (x ∷ ws) w (d.0, (j, k, d.1), d.2) in
              let f : z ∷ zs ≡ view x ∷ (map view ws ++ m.0) = m.1 in
              (m.0, cc, m.2)),
        ),
  )

  -- a run has the front of what always comes, and the rest may follow
  pub front_of : (lift : D → A) → ((d : D) → view (lift d) ≡ d) → (us : List A) (xs : List D) (s : S) (w : Bool) → AlwaysYields steps view s xs → DrainsIf steps (w ≡ true) s us
      → (rest : List A) × (w ≡ true → rest ≡ []) × (map view (us ++ rest) ≡ xs)
  front_of lift back [] xs s w h d = (map lift xs, none xs h, backs xs)
    where
      backs : (l : List D) → map view (map lift l) ≡ l
      backs [] = refl
      backs (y ∷ l) = ap₂ (λ a b. a ∷ b) (back y) (backs l)

      none : (l : List D) → AlwaysYields steps view s l → w ≡ true → map lift l ≡ []
      none [] k e = refl
      none (y ∷ l) k e = absurd (k.0 (d.2 e).0 (subst (λ v. steps v None (d.2 e).0) (sym d.1) (d.2 e).1))
  front_of lift back (u ∷ us) [] s w h d = absurd (h u d.1.0 d.1.1)
  front_of lift back (u ∷ us) (x ∷ xs) s w h d =
      let one = h.1 u d.1.0 d.1.1 in
      let m = front_of lift back us xs d.1.0 w one.1 (d.0, d.1.2, d.2) in
      (m.0, m.1, ap₂ (λ a l. a ∷ l) one.0 m.2)

map-append : {A D : Type 0} (view : A → D) (xs ys : List A) → map view (xs ++ ys) ≡ map view xs ++ map view ys
map-append view [] ys = refl
map-append view (x ∷ xs) ys = ap (λ l. view x ∷ l) (map-append view xs ys)

pub begins-map : {A D : Type 0} (view : A → D) (w : Bool) (ys zs : List A) → Begins w ys zs → Begins w (map view ys) (map view zs)
begins-map view w ys zs b = (map view b.0, ap (map view) b.1 ∙ map-append view ys b.0, λ e. ap (map view) (b.2 e))

-- some reference to x
abbrev pub pointing : {X : Type 0} → X → Bor X
pointing x = record { ref_ptr = (0, 0); now = x }

module _ {S T U X : Type 0} (cmp : X → X → Ordering) (steps : U → Option (Bor X) → U → Type 0) (s : U) (firsts : S → Option (Bor X) → S → Type 0) (x : S) (seconds : T → Option (Bor X) → T → Type 0) (y : T) where
  abbrev at_refs : Bor X → Bor X → Ordering
  at_refs = by_view (λ r. r.now) cmp

  -- from the clause `runs` of a set operation
  refs-of_runs : (f : List (Bor X) → List (Bor X) → List (Bor X)) (g : List X → List X → List X) → ((us vs : List (Bor X)) → map (λ r. r.now) (f us vs) ≡ g (map (λ r. r.now) us) (map (λ r. r.now) vs))
      → RunsAre at_refs f steps s firsts x seconds y → (xs ys : List X) → GivesRefs firsts x xs → GivesRefs seconds y ys → IsStrictlySortedBy cmp xs → IsStrictlySortedBy cmp ys → GivesRefs steps s (g xs ys)
  refs-of_runs f g natural runs xs ys left right c d = record {
    runs = all_runs (λ r. r.now) steps (g xs ys) s (λ zs w ran.
        let r = runs.behind (run steps s zs w ran) (seen _) refl in
        let a = r.0 in
        let b = r.2.0 in
        let i = front_of (λ r. r.now) firsts pointing (λ _. refl) a.items xs x a.whole left.runs (subst (λ k. DrainsIf firsts (a.whole ≡ true) k a.items) r.1 (took a)) in
        let j = front_of (λ r. r.now) seconds pointing (λ _. refl) b.items ys y b.whole right.runs (subst (λ k. DrainsIf seconds (b.whole ≡ true) k b.items) r.2.1 (took b)) in
        let u = ascends-by_view (λ r. r.now) cmp (a.items ++ i.0) (subst (IsStrictlySortedBy cmp) (sym i.2) c) in
        let v = ascends-by_view (λ r. r.now) cmp (b.items ++ j.0) (subst (IsStrictlySortedBy cmp) (sym j.2) d) in
        subst (Begins w (map (λ r. r.now) zs)) (natural (a.items ++ i.0) (b.items ++ j.0) ∙ ap₂ g i.2 j.2) (begins-map (λ r. r.now) w zs _ (r.2.2.front i.0 j.0 i.1 j.1 u v)));
  }

  pub refs-of_union : RunsAre at_refs (union at_refs) steps s firsts x seconds y → (xs ys : List X) → GivesRefs firsts x xs → GivesRefs seconds y ys → IsStrictlySortedBy cmp xs → IsStrictlySortedBy cmp ys → GivesRefs steps s (union cmp xs ys)
  refs-of_union = refs-of_runs (union at_refs) (union cmp) (view-union (λ r. r.now) cmp)

  pub refs-of_intersection : RunsAre at_refs (intersection at_refs) steps s firsts x seconds y → (xs ys : List X) → GivesRefs firsts x xs → GivesRefs seconds y ys → IsStrictlySortedBy cmp xs → IsStrictlySortedBy cmp ys → GivesRefs steps s (intersection cmp xs ys)
  refs-of_intersection = refs-of_runs (intersection at_refs) (intersection cmp) (view-intersection (λ r. r.now) cmp)

  pub refs-of_difference : RunsAre at_refs (difference at_refs) steps s firsts x seconds y → (xs ys : List X) → GivesRefs firsts x xs → GivesRefs seconds y ys → IsStrictlySortedBy cmp xs → IsStrictlySortedBy cmp ys → GivesRefs steps s (difference cmp xs ys)
  refs-of_difference = refs-of_runs (difference at_refs) (difference cmp) (view-difference (λ r. r.now) cmp)

  pub refs-of_symmetric_difference : RunsAre at_refs (symmetric_difference at_refs) steps s firsts x seconds y → (xs ys : List X) → GivesRefs firsts x xs → GivesRefs seconds y ys → IsStrictlySortedBy cmp xs → IsStrictlySortedBy cmp ys → GivesRefs steps s (symmetric_difference cmp xs ys)
  refs-of_symmetric_difference = refs-of_runs (symmetric_difference at_refs) (symmetric_difference cmp) (view-symmetric_difference (λ r. r.now) cmp)

-- the iterator of a set gives its keys
pub refs-of_keys : {K : Type 0} (s xs : List K) → s ≡ xs → GivesRefs (TakesFirst (deref {X = K})) s xs
refs-of_keys {K} s xs e = record { runs = subst (AlwaysYields (TakesFirst (deref {X = K})) (λ r. r.now) s) e (go s) }
  where
    go : (l : List K) → AlwaysYields (TakesFirst (deref {X = K})) (λ r. r.now) l l
    go [] = λ r j k. let e : [] ≡ r.now ∷ j = k in absurd cc
    go (y ∷ l) = (
      (λ j k. let e : y ∷ l ≡ [] = k.0 in absurd cc),
      λ r j k.
          let e : y ∷ l ≡ r.now ∷ j = k in
          let f : j ≡ l = cc in
          (cc, subst (λ v. AlwaysYields (TakesFirst (deref {X = K})) (λ r. r.now) v l) (sym f) (go l)),
    )

-- a loop over a stream that gives references to the items of a list
pub refs-of_loop : {S X : Type 0} {steps : S → Option (Bor X) → S → Type 0} {s t u : S} {all : List X} (xs : List (Bor X)) → GivesRefs steps s all → Yields steps s xs t → steps t None u → map (λ r. r.now) xs ≡ all
refs-of_loop {steps = steps} {s} {t} {u} xs h y e = items_from_drains {steps = steps} {v = λ r. r.now} {s = s} xs (t, y, λ _. (u, e)) (record { runs = h.runs })
