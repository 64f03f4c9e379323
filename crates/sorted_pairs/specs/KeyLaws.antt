-- The laws of the mark of the stream of keys.
use Rattle.std.proofs.Common.{◌≡◌, inl, [], Option, Some, None, refl}
use Rattle.std.specs.declared.cmp.Ordering.{Ordering}
use Rattle.ordered_lists.specs.Lists.{by_key}
use Rattle.sorted_iter.specs.AdapterLaws.{adapted-in_order}
use Rattle.sorted_iter.specs.Orders.{InOrder}
use Rattle.sorted_pairs.specs.declared.keys.Keys.{Keys}
use Rattle.sorted_pairs.specs.KeyStreams.{keys_source, keys_steps}

module _ {S K V : Type 0} (steps : S → Option (K × V) → S → Type 0) where
  same-order : (cmp : K → K → Ordering) (p q : K × V) (j k : K) → p.0 ≡ j → q.0 ≡ k → by_key cmp p q ≡ cmp j k
  same-order cmp p q j k e f = cc

  pub keys-in_order : (cmp : K → K → Ordering) (s : Keys S) → InOrder (by_key cmp) steps (keys_source s) → InOrder cmp (keys_steps steps) s
  keys-in_order cmp = adapted-in_order keys_source (λ _. ⊥) (λ p k. p.0 ≡ k) (keys_steps steps) steps
      (λ a b k e. ([], (k, e.0), (keys_source a, refl, e.1), refl)) (λ a b e. inl ([], (keys_source a, refl, e))) (λ a b h e. absurd h)
      (λ a b k h e. h)
      (by_key cmp) cmp (same-order cmp)

  pub keys-goes_on : (In : S → Type 0) → ((s t : S) (r : Option (K × V)) → In s → steps s r t → In t) → (s t : Keys S) (r : Option K)
      → In (keys_source s) → keys_steps steps s r t → In (keys_source t)
  keys-goes_on In goes s t None h e = goes (keys_source s) (keys_source t) None h e
  keys-goes_on In goes s t (Some k) h e = goes (keys_source s) (keys_source t) (Some (k, e.0)) h e.1
