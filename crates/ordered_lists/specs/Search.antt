-- The place of a key among items in order, and what is found, placed and taken out there.
use Rattle.std.specs.Prelude.{◌≡◌, ℕ, ◌+◌, ◌<◌, ◌≤◌, Bool, true, false, List, [], ◌∷◌, length, slice_get, slice_set, None, zero, suc}
use Rattle.std.specs.declared.cmp.Ordering.{Ordering}
use Rattle.std.specs.Ordering.{is_lt, is_le}
use Rattle.std.specs.List.{AllWithin, insert, remove}
use Rattle.ordered_lists.specs.Lists.{to_key, find, take_out, set, put}

-- the pair at place i takes the value v
abbrev pub set_value : {K V : Type 0} → List (K × V) → ℕ → V → List (K × V)
set_value [] i v = []
set_value (p ∷ ps) zero v = (p.0, v) ∷ ps
set_value (p ∷ ps) (suc i) v = p ∷ set_value ps i v

-- the test passes on each item before place i, and fails on each from there on
pub record IsCutAt {A : Type 0} (test : A → Bool) (xs : List A) (i : ℕ) : Type 0 where
  pub in_range : i ≤ length xs
  pub front : AllWithin (λ x. test x ≡ true) xs 0 i
  pub back : AllWithin (λ x. test x ≡ false) xs i (length xs)

-- items that `cmp` compares by their keys
module _ {A K : Type 0} (key : A → K) (cmp : K → K → Ordering) where
  -- an item is equal to the key k, and stands at place i
  pub record IsFound (xs : List A) (k : K) (i : ℕ) : Type 0 where
    pub in_range : i < length xs
    pub finds : find (λ x q. cmp (key x) q) xs k ≡ slice_get xs i
    pub takes : take_out (λ x q. cmp (key x) q) xs k ≡ remove xs i
    pub places : (x : A) → key x ≡ k → set (λ y z. cmp (key y) (key z)) xs x ≡ slice_set xs i x
    pub below : IsCutAt (λ x. is_lt (cmp (key x) k)) xs i
    pub upto : IsCutAt (λ x. is_le (cmp (key x) k)) xs (i + 1)

  -- no item is equal to the key k, whose place would be i
  pub record IsMissing (xs : List A) (k : K) (i : ℕ) : Type 0 where
    pub in_range : i ≤ length xs
    pub finds : find (λ x q. cmp (key x) q) xs k ≡ None
    pub takes : take_out (λ x q. cmp (key x) q) xs k ≡ xs
    pub places : (x : A) → key x ≡ k → set (λ y z. cmp (key y) (key z)) xs x ≡ insert xs i x
    pub below : IsCutAt (λ x. is_lt (cmp (key x) k)) xs i
    pub upto : IsCutAt (λ x. is_le (cmp (key x) k)) xs i

-- pairs that `cmp` compares by their keys
module _ {K V : Type 0} (cmp : K → K → Ordering) where
  -- a pair has a key equal to k, and stands at place i
  pub record IsPairFound (ps : List (K × V)) (k : K) (i : ℕ) : Type 0 where
    pub found : IsFound (λ p. p.0) cmp ps k i
    pub in_range : i < length ps
    pub finds : find (to_key cmp) ps k ≡ slice_get ps i
    pub takes : take_out (to_key cmp) ps k ≡ remove ps i
    pub puts : (v : V) → put cmp ps k v ≡ set_value ps i v

  -- no pair has a key equal to k, whose place would be i
  pub record IsPairMissing (ps : List (K × V)) (k : K) (i : ℕ) : Type 0 where
    pub missing : IsMissing (λ p. p.0) cmp ps k i
    pub in_range : i ≤ length ps
    pub finds : find (to_key cmp) ps k ≡ None
    pub takes : take_out (to_key cmp) ps k ≡ ps
    pub puts : (v : V) → put cmp ps k v ≡ insert ps i (k, v)
