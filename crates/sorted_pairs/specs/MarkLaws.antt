-- The laws of the mark of std's iterators and adapters, and of `Pairs`.
use Rattle.std.proofs.Common.{◌≡◌, inl, inr, Bool, true, false, List, [], ◌∷◌, Option, Some, None, refl, sym, ap, subst, ◌∙◌, true≢false}
use Rattle.std.specs.Bool.{MatchBool}
use Rattle.std.specs.Iterator.{YieldsThen}
use Rattle.std.specs.Iterator.Adapters.{fuse_steps, fuse_source, fuse_done, zip_steps, zip_first}
use Rattle.std.specs.List.Sorted.{IsStrictlySortedBy}
use Rattle.std.specs.Map.Iter.{TakesFirst}
use Rattle.std.specs.declared.cmp.Ordering.{Ordering}
use Rattle.std.specs.declared.iter.Fuse.{Fuse}
use Rattle.std.specs.declared.iter.Zip.{Zip}
use Rattle.ordered_lists.specs.Joins.{keys}
use Rattle.ordered_lists.specs.Lists.{by_key}
use Rattle.sorted_iter.specs.AdapterLaws.{adapted-in_order, shut-one, one-in_order}
use Rattle.sorted_iter.specs.GoesOn.{ascends-back}
use Rattle.sorted_iter.specs.Orders.{InOrder}
use Rattle.sorted_iter.specs.PairStreams.{pairs_source, pairs_steps}
use Rattle.sorted_iter.specs.Sources.{in_order-of_rest}
use Rattle.sorted_iter.specs.declared.pairs.Pairs.{Pairs}

-- items that are keys of pairs stand as the pairs do
same-keys : {K V : Type 0} (cmp : K → K → Ordering) (j k : K) (p q : K × V) → j ≡ p.0 → k ≡ q.0 → cmp j k ≡ by_key cmp p q
same-keys cmp j k p q e f = cc

-- ---- an item and `()`

module _ {S A : Type 0} (steps : S → Option A → S → Type 0) where
  pub pairs-in_order : (cmp : A → A → Ordering) (s : Pairs S) → InOrder cmp steps (pairs_source s)
      → InOrder (by_key cmp) (pairs_steps steps) s
  pairs-in_order cmp = adapted-in_order pairs_source (λ _. ⊥) (λ x p. x ≡ p.0) (pairs_steps steps) steps
      (λ a b p e. ([], p.0, (pairs_source a, refl, e), refl)) (λ a b e. inl ([], (pairs_source a, refl, e))) (λ a b h e. absurd h)
      (λ a b p h e. h)
      cmp (by_key cmp) (same-keys cmp)

-- ---- `zip(..).fuse()`: std's `Zip` doesn't say what is left once it has ended, and `Fuse` says that it stays so

module _ {S T A B : Type 0} (steps : S → Option A → S → Type 0) (others : T → Option B → T → Type 0) where
  abbrev pub zipped_first : Fuse (Zip S T) → S
  zipped_first s = zip_first (fuse_source s)

  abbrev pub zipped_steps : Fuse (Zip S T) → Option (A × B) → Fuse (Zip S T) → Type 0
  zipped_steps = fuse_steps (zip_steps steps others)

  -- while it isn't done P holds of the first side
  abbrev pub WhileOpen : (S → Type 0) → Fuse (Zip S T) → Type 0
  WhileOpen P s = fuse_done s ≡ false → P (zipped_first s)

  first-gives : (s t : Fuse (Zip S T)) (p : A × B) (d : Bool) → MatchBool d (Some p ≡ None)
      (zip_steps steps others (fuse_source s) (Some p) (fuse_source t)) → steps (zipped_first s) (Some p.0) (zipped_first t)
  first-gives s t p true h = absurd cc
  first-gives s t p false h = h.0

  not-shut : (s t : Fuse (Zip S T)) (p : A × B) (d : Bool) → d ≡ true
      → MatchBool d (Some p ≡ None) (zip_steps steps others (fuse_source s) (Some p) (fuse_source t)) → ⊥
  not-shut s t p true e h = cc
  not-shut s t p false e h = true≢false (sym e)

  gives : (s t : Fuse (Zip S T)) (p : A × B) → zipped_steps s (Some p) t
      → (us : List A) × (x : A) × YieldsThen steps (zipped_first s) us (Some x) (zipped_first t) × (x ≡ p.0)
  gives s t p k = ([], p.0, (zipped_first s, refl, first-gives s t p (fuse_done s) k.0), refl)

  in_order-by : (cmp : A → A → Ordering) (s : Fuse (Zip S T)) (d : Bool) → fuse_done s ≡ d → WhileOpen (InOrder cmp steps) s
      → InOrder (by_key cmp) zipped_steps s
  in_order-by cmp s true e h = one-in_order (by_key cmp) zipped_steps s
      (shut-one zipped_first (λ z. fuse_done z ≡ true) (λ x p. x ≡ p.0) zipped_steps steps gives (λ a b k. inr k.1) (λ a b z k. k.1)
      (λ a b p z k. not-shut a b p (fuse_done a) z k.0) s e)
  in_order-by cmp s false e h = adapted-in_order zipped_first (λ z. fuse_done z ≡ true) (λ x p. x ≡ p.0) zipped_steps steps gives
      (λ a b k. inr k.1) (λ a b z k. k.1) (λ a b p z k. not-shut a b p (fuse_done a) z k.0) cmp (by_key cmp) (same-keys cmp) s (h e)

  pub zipped-in_order : (cmp : A → A → Ordering) (s : Fuse (Zip S T)) → WhileOpen (InOrder cmp steps) s
      → InOrder (by_key cmp) zipped_steps s
  zipped-in_order cmp s h = in_order-by cmp s (fuse_done s) refl h

  pub zipped-goes_on : (In : S → Type 0) → ((s t : S) (r : Option A) → In s → steps s r t → In t)
      → (s t : Fuse (Zip S T)) (r : Option (A × B)) → WhileOpen In s → zipped_steps s r t → WhileOpen In t
  zipped-goes_on In goes s t None h k = λ e. absurd (true≢false (sym k.1 ∙ e))
  zipped-goes_on In goes s t (Some p) h k = λ e. by_done (fuse_done s) refl
    where
      by_done : (d : Bool) → fuse_done s ≡ d → In (zipped_first t)
      by_done true z = absurd (not-shut s t p (fuse_done s) z k.0)
      by_done false z = goes (zipped_first s) (zipped_first t) (Some p.0) (h z) (first-gives s t p (fuse_done s) k.0)

-- ---- the pairs of a `BTreeMap`

-- an iterator that is seen as the list of what it has left, of which `shows` reads each item
module _ {A K V : Type 0} (shows : A → K × V) where
  pub shown-in_order : (cmp : K → K → Ordering) (s : List (K × V)) → IsStrictlySortedBy cmp (keys s)
      → InOrder (λ x y. cmp (shows x).0 (shows y).0) (TakesFirst shows) s
  shown-in_order cmp s h = in_order-of_rest (λ x. (shows x).0) (TakesFirst shows) (λ l. keys l) (λ l. l ≡ [])
      (λ l m x k. (ap keys k, λ z. let w : [] ≡ shows x ∷ m = sym z ∙ k in absurd cc)) (λ l m k. k.1) cmp s h

  pub shown-goes_on : (cmp : K → K → Ordering) (s t : List (K × V)) (r : Option A) → IsStrictlySortedBy cmp (keys s)
      → TakesFirst shows s r t → IsStrictlySortedBy cmp (keys t)
  shown-goes_on cmp s t None h e = subst (λ l. IsStrictlySortedBy cmp (keys l)) (e.0 ∙ sym e.1) h
  shown-goes_on cmp s t (Some x) h e = ascends-back cmp ((shows x).0 ∷ []) (keys t) (subst (λ l. IsStrictlySortedBy cmp (keys l)) e h)
