-- What a map ends as, once the values that it lends are written.
use Rattle.std.specs.Prelude.{◌≡◌, List, [], ◌∷◌, map, length}
use Rattle.std.specs.Borrow.{Fml, RattleType, MutBor, follows}
use base.Fml.{GName}
use Rattle.sorted_vector_map.specs.Content.{Content}
use Rattle.sorted_vector_map.specs.Lent.{OrdMembers, map_row}

module _ {K V : Type 0} where
  -- the pairs with xs as their values in turn, as far as these go
  abbrev pub with_values : List (K × V) → List V → List (K × V)
  with_values [] xs = []
  with_values (p ∷ ps) [] = p ∷ ps
  with_values (p ∷ ps) (x ∷ xs) = (p.0, x) ∷ with_values ps xs

  -- the map with other values: its keys and its spare stay
  abbrev pub refilled : Content K V → List V → Content K V
  refilled m xs = record { pairs = with_values m.pairs xs; spare = m.spare }

module _ (K V : Type 0) where
  -- whatever values are written, the keys stay in their order
  abbrev pub RefilledKeepsKeys : Type 0
  RefilledKeepsKeys = (m : Content K V) (xs : List V) → map (λ p. p.0) (refilled m xs).pairs ≡ map (λ p. p.0) m.pairs

  -- whatever values are written, the number of pairs stays
  abbrev pub RefilledKeepsLength : Type 0
  RefilledKeepsLength = (m : Content K V) (xs : List V) → length (refilled m xs).pairs ≡ length m.pairs

-- the map behind m ends with its keys, its spare, and the values that the loan of that name ends at
abbrev pub lends_values : (K V : RattleType) (g : OrdMembers K.Denot) → MutBor (Content K.Denot V.Denot) → GName → Fml
lends_values K V g m loan = follows (map_row K V g) (map_row K V g) m.ghost_name loan (λ w. refilled m.now (map (λ p. p.1) w.pairs))
