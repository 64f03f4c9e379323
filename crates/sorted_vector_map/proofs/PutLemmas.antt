-- What is found at a key, once a value is put there.
use Rattle.std.proofs.Common.{◌≡◌, true, List, [], ◌∷◌, Option, Some, None, refl}
use Rattle.std.specs.Prelude.{IsTrue, is_some}
use Rattle.std.specs.declared.cmp.Ordering.{Ordering}
use Rattle.std.specs.declared.cmp.Ordering.TheVariants.{Less, Equal, Greater}
use Rattle.std.specs.Ordering.{match_ordering}
use Rattle.std.specs.Cmp.{IsTotalOrder}
use Rattle.std.specs.Option.{option_map}
use Rattle.std.proofs.lemmas.Cmp.{tied_itself}
use Rattle.ordered_lists.specs.Lists.{to_key, find, has, put}

some_there : {A B : Type 0} (f : A → B) (x : Option A) (y : B) → option_map f x ≡ Some y → is_some x ≡ true
some_there f None y e = cc
some_there f (Some x) y e = refl

module _ {K V : Type 0} (cmp : K → K → Ordering) (order : IsTotalOrder cmp) where
  -- the value that is found at k, where a list begins as `put` makes it begin
  first_is : (p : K × V) (ps rest : List (K × V)) (k : K) (v : V) (r : Ordering) → cmp p.0 k ≡ r → option_map (λ q. q.1) (find (to_key cmp) rest k) ≡ Some v
      → option_map (λ q. q.1) (find (to_key cmp) (match_ordering r (p ∷ rest) ((p.0, v) ∷ ps) ((k, v) ∷ p ∷ ps)) k) ≡ Some v
  first_is p ps rest k v Less e there = rw e there
  first_is p ps rest k v Equal e there = rw e refl
  first_is p ps rest k v Greater e there = rw (tied_itself order k) refl

  pub find_put : (ps : List (K × V)) (k : K) (v : V) → option_map (λ p. p.1) (find (to_key cmp) (put cmp ps k v) k) ≡ Some v
  find_put [] k v = rw (tied_itself order k) refl
  find_put (p ∷ ps) k v = first_is p ps (put cmp ps k v) k v (cmp p.0 k) refl (find_put ps k v)

  -- the same of a list that is known to be what `put` makes
  pub holds_put : (ps qs : List (K × V)) (k : K) (v : V) → qs ≡ put cmp ps k v → option_map (λ p. p.1) (find (to_key cmp) qs k) ≡ Some v
  holds_put ps qs k v is = rw is (find_put ps k v)

  pub has_put : (ps qs : List (K × V)) (k : K) (v : V) → qs ≡ put cmp ps k v → IsTrue (has (to_key cmp) qs k)
  has_put ps qs k v is = some_there (λ (p : K × V). p.1) (find (to_key cmp) qs k) v (holds_put ps qs k v is)
