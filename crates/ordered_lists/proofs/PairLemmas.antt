-- What placing a value at a key does to pairs in order.
use Rattle.std.proofs.Common.{◌≡◌, ℕ, zero, suc, ◌-◌, ◌<◌, ◌≤◌, true, false, List, [], ◌∷◌, length, map, get_or, set, slice_get, Option, Some, None, Result, Ok, Err, IfOk, IfErr, refl, ap, ◌∙◌, subst, arith}
use Rattle.std.specs.declared.cmp.Ordering.{Ordering}
use Rattle.std.specs.declared.cmp.Ordering.TheVariants.{Less, Equal, Greater}
use Rattle.std.specs.Ordering.{match_ordering, is_eq, is_lt, is_le}
use Rattle.std.specs.Cmp.{IsTotalOrder}
use Rattle.std.specs.Option.{option_map}
use Rattle.std.specs.List.{AllByRecursion, AllZip, insert, remove}
use Rattle.std.specs.List.Sorted.{IsSearchInRange, IsBinarySearchResult, IsStrictlySortedBy}
use Rattle.ordered_lists.specs.Lists.{by_key, to_key, find, put, set as place}
use Rattle.ordered_lists.specs.Search.{set_value, IsFound, IsMissing, IsPairFound, IsPairMissing}
use Rattle.ordered_lists.proofs.SearchLemmas.{searched, after_last}

pub by_key_total : {K V : Type 0} {cmp : K → K → Ordering} → IsTotalOrder cmp → IsTotalOrder (by_key {V = V} cmp)
by_key_total o = record {
  antisymm = λ p q. o.antisymm p.0 q.0;
  trans = λ p q r. o.trans p.0 q.0 r.0;
  congr = λ p q r. o.congr p.0 q.0 r.0;
}

equal_between : (r : Ordering) → is_lt r ≡ false → is_le r ≡ true → r ≡ Equal
equal_between Less h k = cc
equal_between Equal h k = refl
equal_between Greater h k = cc

less_is : (r : Ordering) → is_lt r ≡ true → r ≡ Less
less_is Less h = refl
less_is Equal h = cc
less_is Greater h = cc

pub length-set_value : {K V : Type 0} (ps : List (K × V)) (i : ℕ) (v : V) → length (set_value ps i v) ≡ length ps
length-set_value [] i v = refl
length-set_value (p ∷ ps) zero v = refl
length-set_value (p ∷ ps) (suc i) v = ap suc (length-set_value ps i v)

-- what a write to the value of the pair at place i leaves
set_is : {K V : Type 0} (ps : List (K × V)) (i : ℕ) (p : K × V) (v : V) → i < length ps → p ≡ get_or ps i p → set ps i (p.0, v) ≡ set_value ps i v
set_is [] i p v lt is = absurd (omega arith)
set_is (q ∷ ps) zero p v lt is = ap (λ (r : _ × _). (r.0, v) ∷ ps) is
set_is (q ∷ ps) (suc i) p v lt is = ap (λ t. q ∷ t) (set_is ps i p v (omega arith) is)

-- the same of a list that is known to be ps
pub writes : {K V : Type 0} (ps qs : List (K × V)) → qs ≡ ps → (i : ℕ) (p : K × V) (v : V) → i < length ps → p ≡ get_or qs i p → set qs i (p.0, v) ≡ set_value ps i v
writes ps qs same i p v lt is = ap (λ t. set t i (p.0, v)) same ∙ set_is ps i p v lt (subst (λ t. p ≡ get_or t i p) same is)

pub set_inserted : {K V : Type 0} (ps : List (K × V)) (i : ℕ) (k : K) (v w : V) → i ≤ length ps → set_value (insert ps i (k, v)) i w ≡ insert ps i (k, w)
set_inserted ps zero k v w le = refl
set_inserted [] (suc i) k v w le = absurd (omega arith)
set_inserted (p ∷ ps) (suc i) k v w le = ap (λ t. p ∷ t) (set_inserted ps i k v w (omega arith))

pub set_twice : {K V : Type 0} (ps : List (K × V)) (i : ℕ) (v w : V) → set_value (set_value ps i v) i w ≡ set_value ps i w
set_twice [] i v w = refl
set_twice (p ∷ ps) zero v w = refl
set_twice (p ∷ ps) (suc i) v w = ap (λ t. p ∷ t) (set_twice ps i v w)

pub get_set : {K V : Type 0} (ps : List (K × V)) (i : ℕ) (v : V) (p : K × V) → slice_get ps i ≡ Some p → slice_get (set_value ps i v) i ≡ Some (p.0, v)
get_set [] i v p is = cc
get_set (q ∷ ps) zero v p is = let same : q ≡ p = cc in ap (λ (r : _ × _). Some (r.0, v)) same
get_set (q ∷ ps) (suc i) v p is = get_set ps i v p is

pub key_set : {K V : Type 0} (ps : List (K × V)) (i : ℕ) (v : V) → option_map (λ p. p.0) (slice_get (set_value ps i v) i) ≡ option_map (λ p. p.0) (slice_get ps i)
key_set [] i v = refl
key_set (p ∷ ps) zero v = refl
key_set (p ∷ ps) (suc i) v = key_set ps i v

pub value_set : {K V : Type 0} (ps : List (K × V)) (i : ℕ) (v : V) → i < length ps → option_map (λ p. p.1) (slice_get (set_value ps i v) i) ≡ Some v
value_set [] i v lt = absurd (omega arith)
value_set (p ∷ ps) zero v lt = refl
value_set (p ∷ ps) (suc i) v lt = value_set ps i v (omega arith)

pub remove_set : {K V : Type 0} (ps : List (K × V)) (i : ℕ) (v : V) → remove (set_value ps i v) i ≡ remove ps i
remove_set [] i v = refl
remove_set (p ∷ ps) zero v = refl
remove_set (p ∷ ps) (suc i) v = ap (λ t. p ∷ t) (remove_set ps i v)

pub same_some : {A : Type 0} (x y : A) → Some x ≡ Some y → x ≡ y
same_some x y e = cc

pub get_inserted : {A : Type 0} (xs : List A) (i : ℕ) (x : A) → i ≤ length xs → slice_get (insert xs i x) i ≡ Some x
get_inserted xs zero x le = refl
get_inserted [] (suc i) x le = absurd (omega arith)
get_inserted (y ∷ xs) (suc i) x le = get_inserted xs i x (omega arith)

all_remove : {A : Type 0} (P : A → Type 0) (xs : List A) (i : ℕ) → AllByRecursion P xs → AllByRecursion P (remove xs i)
all_remove P [] zero all = tt
all_remove P [] (suc i) all = tt
all_remove P (x ∷ xs) zero all = all.1
all_remove P (x ∷ xs) (suc i) all = (all.0, all_remove P xs i all.1)

pub remove_ascends : {A : Type 0} (cmp : A → A → Ordering) (xs : List A) (i : ℕ) → IsStrictlySortedBy cmp xs → IsStrictlySortedBy cmp (remove xs i)
unfolding IsStrictlySortedBy
remove_ascends cmp [] zero a = tt
remove_ascends cmp [] (suc i) a = tt
remove_ascends cmp (x ∷ xs) zero a = a.1
remove_ascends cmp (x ∷ xs) (suc i) a = (all_remove (λ y. cmp x y ≡ Less) xs i a.0, remove_ascends cmp xs i a.1)

-- lists whose items are equal one by one
pub all_same : {A : Type 0} (R : A → A → Type 0) → ((x y : A) → R x y → y ≡ x) → (xs ys : List A) → AllZip R xs ys → ys ≡ xs
all_same R f [] [] all = refl
all_same R f [] (y ∷ ys) all = absurd all
all_same R f (x ∷ xs) [] all = absurd all
all_same R f (x ∷ xs) (y ∷ ys) all = (λ i. f x y all.0 i ∷ all_same R f xs ys all.1 i)

all_keys : {K V : Type 0} (P : K → Type 0) (ps : List (K × V)) → AllByRecursion P (map (λ p. p.0) ps) → AllByRecursion (λ p. P p.0) ps
all_keys P [] all = tt
all_keys P (p ∷ ps) all = (all.0, all_keys P ps all.1)

-- pairs whose keys are in order are in order
pub pairs_ascend : {K V : Type 0} (cmp : K → K → Ordering) (ps : List (K × V)) → IsStrictlySortedBy cmp (map (λ p. p.0) ps) → IsStrictlySortedBy (by_key cmp) ps
unfolding IsStrictlySortedBy
pairs_ascend cmp [] a = tt
pairs_ascend cmp (p ∷ ps) a = (all_keys (λ k. cmp p.0 k ≡ Less) ps a.0, pairs_ascend cmp ps a.1)

keys_all : {K V : Type 0} (P : K → Type 0) (ps : List (K × V)) → AllByRecursion (λ p. P p.0) ps → AllByRecursion P (map (λ p. p.0) ps)
keys_all P [] all = tt
keys_all P (p ∷ ps) all = (all.0, keys_all P ps all.1)

-- and the keys of pairs in order
pub keys_ascend : {K V : Type 0} (cmp : K → K → Ordering) (ps : List (K × V)) → IsStrictlySortedBy (by_key cmp) ps → IsStrictlySortedBy cmp (map (λ p. p.0) ps)
unfolding IsStrictlySortedBy
keys_ascend cmp [] a = tt
keys_ascend cmp (p ∷ ps) a = (keys_all (λ k. cmp p.0 k ≡ Less) ps a.0, keys_ascend cmp ps a.1)

module _ {K V : Type 0} (cmp : K → K → Ordering) where
  all_value : (P : K → Type 0) (ps : List (K × V)) (i : ℕ) (v : V) → AllByRecursion (λ p. P p.0) ps → AllByRecursion (λ p. P p.0) (set_value ps i v)
  all_value P [] i v all = tt
  all_value P (p ∷ ps) zero v all = all
  all_value P (p ∷ ps) (suc i) v all = (all.0, all_value P ps i v all.1)

  pub set_value_ascends : (ps : List (K × V)) (i : ℕ) (v : V) → IsStrictlySortedBy (by_key cmp) ps → IsStrictlySortedBy (by_key cmp) (set_value ps i v)
  unfolding IsStrictlySortedBy
  set_value_ascends [] i v a = tt
  set_value_ascends (p ∷ ps) zero v a = a
  set_value_ascends (p ∷ ps) (suc i) v a = (all_value (λ k. cmp p.0 k ≡ Less) ps i v a.0, set_value_ascends ps i v a.1)

  put_at : (ps : List (K × V)) (k : K) (v : V) (i : ℕ) → i < length ps
      → ((j : ℕ) (d : K × V) → j < i → cmp (get_or ps j d).0 k ≡ Less) → ((d : K × V) → cmp (get_or ps i d).0 k ≡ Equal) → put cmp ps k v ≡ set_value ps i v
  put_at [] k v i lt less equal = absurd (omega arith)
  put_at (p ∷ ps) k v zero lt less equal = rw (equal p)
  put_at (p ∷ ps) k v (suc i) lt less equal = rw (less 0 p (omega arith)) (ap (λ t. p ∷ t) (put_at ps k v i (omega arith) (λ j d below. less (suc j) d (omega arith)) equal))

  put_new : (ps : List (K × V)) (k : K) (v : V) → find (to_key cmp) ps k ≡ None → put cmp ps k v ≡ place (by_key cmp) ps (k, v)
  put_new [] k v none = refl
  put_new (p ∷ ps) k v none =
      elim (cmp p.0 k) as (λ r. (if_eq r) ≡ None → match_ordering r (p ∷ put cmp ps k v) ((p.0, v) ∷ ps) ((k, v) ∷ p ∷ ps) ≡ match_ordering r (p ∷ place (by_key cmp) ps (k, v)) ((k, v) ∷ ps) ((k, v) ∷ p ∷ ps)) [
        | Less ↦ λ e. ap (λ t. p ∷ t) (put_new ps k v e)
        | Equal ↦ λ e. cc
        | Greater ↦ λ e. refl
      ] none
    where
      if_eq : Ordering → Option (K × V)
      if_eq r = Rattle.std.specs.Prelude.if◌then◌else◌ (is_eq r) (Some p) (find (to_key cmp) ps k)

  pub pair_found : (ps : List (K × V)) (k : K) (i : ℕ) → IsFound (λ (p : K × V). p.0) cmp ps k i → IsPairFound cmp ps k i
  pair_found ps k i at = record {
    found = at;
    in_range = at.in_range;
    finds = at.finds;
    takes = at.takes;
    puts = λ v. put_at ps k v i at.in_range (λ j d below. less_is _ (at.below.front j d (omega arith) below))
        (λ d. equal_between _ (at.below.back i d (omega arith) at.in_range) (at.upto.front i d (omega arith) (omega arith)));
  }

  pub pair_missing : (ps : List (K × V)) (k : K) (i : ℕ) → IsMissing (λ (p : K × V). p.0) cmp ps k i → IsPairMissing cmp ps k i
  pair_missing ps k i gap = record {
    missing = gap;
    in_range = gap.in_range;
    finds = gap.finds;
    takes = gap.takes;
    puts = λ v. put_new ps k v gap.finds ∙ gap.places (k, v) refl;
  }

  pub pair_searched : IsTotalOrder cmp → (ps : List (K × V)) → IsStrictlySortedBy (by_key cmp) ps → (k : K) (r : Result ℕ ℕ)
      → IsSearchInRange r (length ps) → IsBinarySearchResult (λ (p : K × V). cmp p.0 k) ps r
      → record { found : IfOk r (IsPairFound cmp ps k); missing : IfErr r (IsPairMissing cmp ps k) }
  pair_searched o ps a k (Ok i) in_range is = record { found = pair_found ps k i (searched (λ (p : K × V). p.0) cmp o ps a k (Ok i) in_range is).found; missing = tt }
  pair_searched o ps a k (Err i) in_range is = record { found = tt; missing = pair_missing ps k i (searched (λ (p : K × V). p.0) cmp o ps a k (Err i) in_range is).missing }

  pub pair_after_last : IsTotalOrder cmp → (ps : List (K × V)) → IsStrictlySortedBy (by_key cmp) ps → (k : K) (p : K × V)
      → slice_get ps (length ps - 1) ≡ Some p → cmp p.0 k ≡ Less → IsPairMissing cmp ps k (length ps)
  pair_after_last o ps a k p is less = pair_missing ps k (length ps) (after_last (λ (p : K × V). p.0) cmp o ps a k p is less)
