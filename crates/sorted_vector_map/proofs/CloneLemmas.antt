-- A map of clones is equal to the map where clones are.
use Rattle.std.proofs.Common.{Bool, [], ◌∷◌, refl}
use Rattle.sorted_vector_map.specs.Cloned.{ClonesOfPairsAreEqual}

module _ {K V : Type 0} (is_key_clone : K → K → Type 0) (is_value_clone : V → V → Type 0) (key_eq : K → K → Bool) (value_eq : V → V → Bool) where
  pub clones_equal : ClonesOfPairsAreEqual is_key_clone is_value_clone key_eq value_eq
  clones_equal keys values [] [] each = refl
  clones_equal keys values [] (q ∷ copies) each = absurd each
  clones_equal keys values (p ∷ ps) [] each = absurd each
  clones_equal keys values (p ∷ ps) (q ∷ copies) each = rw (keys p.0 q.0 each.0.0, values p.1 q.1 each.0.1) (clones_equal keys values ps copies each.1)
