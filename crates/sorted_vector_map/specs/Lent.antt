-- What a map ends as, once a borrow of one of its values ends.
use Rattle.std.specs.Prelude.{◌≡◌, ℕ, ◌+◌, ◌≤◌, Bool, Option, Result}
use Rattle.std.specs.List.{insert}
use Rattle.std.specs.declared.cmp.Ordering.{Ordering}
use Rattle.std.specs.Borrow.{Fml, RattleType, MutBor, Lends, LendsIf, LendsSoOk}
use Rattle.ordered_lists.specs.Lists.{put}
use Rattle.ordered_lists.specs.Search.{set_value}
use Rattle.sorted_vector_map.specs.Content.{Content}
use Rattle.sorted_vector_map.specs.contracts.map.SortedVectorMap.{the_row}

-- what a clause has as K.Ord
abbrev pub OrdMembers : Type 0 → Type 0
OrdMembers K = record { partial_cmp : K → K → Option Ordering; eq : K → K → Bool; cmp : K → K → Ordering }

-- a map, as the logic names its type
abbrev pub map_row : (K V : RattleType) → OrdMembers K.Denot → RattleType
map_row K V g = the_row K V (record { cmp = g.cmp }) (record { eq = g.eq }) (record { partial_cmp = g.partial_cmp })

-- the map m with w as the value at place i
abbrev pub with_value_at : {K V : Type 0} → Content K V → ℕ → V → Content K V
with_value_at m i w = record { pairs = set_value m.pairs i w; spare = m.spare }

-- the map m with w as the value at the key k
abbrev pub with_value : {K V : Type 0} → (K → K → Ordering) → Content K V → K → V → Content K V
with_value cmp m k w = record { pairs = put cmp m.pairs k w; spare = m.spare }

-- r is the value at place i of the map m
abbrev pub lends_at : (K V : RattleType) (g : OrdMembers K.Denot) → MutBor (Content K.Denot V.Denot) → ℕ → MutBor V.Denot → Fml
lends_at K V g m i r = Lends (map_row K V g) V m r (with_value_at m.now i)

-- r is the value at the key k of the map m
abbrev pub lends_value : (K V : RattleType) (g : OrdMembers K.Denot) → MutBor (Content K.Denot V.Denot) → K.Denot → MutBor V.Denot → Fml
lends_value K V g m k r = Lends (map_row K V g) V m r (with_value g.cmp m.now k)

-- the same where there is one; without one the map stays
abbrev pub lends_value_if : (K V : RattleType) (g : OrdMembers K.Denot) → MutBor (Content K.Denot V.Denot) → K.Denot
    → Option (MutBor V.Denot) → Fml
lends_value_if K V g m k r = LendsIf (map_row K V g) V m r (with_value g.cmp m.now k) m.now

-- r is the value of the pair that was put in at place i of the map m; where it was refused the pairs stay
abbrev pub lends_added : {E : Type 0} (K V : RattleType) (g : OrdMembers K.Denot) → MutBor (Content K.Denot V.Denot) → ℕ → K.Denot
    → Result (MutBor V.Denot) E → Fml
lends_added K V g m i k r = LendsSoOk (map_row K V g) V m r (λ n w. (n.pairs ≡ insert m.now.pairs i (k, w)) × (m.now.spare ≤ n.spare + 1))
    (λ n. (n.pairs ≡ m.now.pairs) × (m.now.spare ≤ n.spare))
