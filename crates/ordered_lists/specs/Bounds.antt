-- Which keys lie between two bounds.
use Rattle.std.specs.Prelude.{Bool, true, false, not, ◌&&◌, List, IsTrue, ⊤}
use Rattle.std.specs.declared.cmp.Ordering.{Ordering}
use Rattle.std.specs.declared.ops.Bound.{Bound}
use Rattle.std.specs.declared.ops.Bound.TheVariants.{Included, Excluded, Unbounded}
use Rattle.std.specs.List.{filter}
use Rattle.std.specs.Ordering.{is_lt, is_le}

module _ {K : Type 0} (cmp : K → K → Ordering) where
  -- whether the key k is below the low bound
  abbrev pub is_before : Bound K → K → Bool
  is_before (Included x) k = is_lt (cmp k x)
  is_before (Excluded x) k = is_le (cmp k x)
  is_before Unbounded k = false

  -- whether the key k is not above the high bound
  abbrev pub is_within : Bound K → K → Bool
  is_within (Included x) k = is_le (cmp k x)
  is_within (Excluded x) k = is_lt (cmp k x)
  is_within Unbounded k = true

  -- the pairs whose keys lie between the bounds
  abbrev pub pairs_within : {V : Type 0} → Bound K → Bound K → List (K × V) → List (K × V)
  pairs_within low high ps = filter (λ p. not (is_before low p.0) && is_within high p.0) ps

  -- the items between the bounds
  abbrev pub items_within : Bound K → Bound K → List K → List K
  items_within low high xs = filter (λ x. not (is_before low x) && is_within high x) xs

  -- the low key is at most the high one, and they aren't equal and both excluded
  abbrev pub AreInOrder : Bound K → Bound K → Type 0
  AreInOrder Unbounded high = ⊤
  AreInOrder (Included x) Unbounded = ⊤
  AreInOrder (Excluded x) Unbounded = ⊤
  AreInOrder (Included x) (Included y) = IsTrue (is_le (cmp x y))
  AreInOrder (Included x) (Excluded y) = IsTrue (is_le (cmp x y))
  AreInOrder (Excluded x) (Included y) = IsTrue (is_le (cmp x y))
  AreInOrder (Excluded x) (Excluded y) = IsTrue (is_lt (cmp x y))
