-- Values that are lent together, each at a place of its own.
use Rattle.std.specs.Prelude.{List, [], ◌∷◌, map}
use base.Fraction.{full_share}
use base.Stored.{coded_list}
use base.Fml.{Lft, GName, Fml, ftrue, ffalse, fsep, fobs, fbor}
use types.SemTy.{SemTy, Body}
use denote.RattleType.{RattleType}
use denote.RawPtr.{Ptr, lies_at}

-- at each of the places lies the value of its turn, and there are as many values as places
abbrev pub lie_at_each : (V : RattleType) → List Ptr → List V.Denot → Fml
lie_at_each V [] [] = ftrue
lie_at_each V [] (x ∷ xs) = ffalse
lie_at_each V (p ∷ places) [] = ffalse
lie_at_each V (p ∷ places) (x ∷ xs) = fsep (lies_at V full_share p x) (lie_at_each V places xs)

-- lists of values at these places, as a type
abbrev pub Scattered : RattleType → List Ptr → SemTy
Scattered V places = record { rep = List V.Denot; coded = coded_list V.coded; size = 0; own_at = λ xs _ _. lie_at_each V places xs }

-- the loan of that name lends the value of each cell for writing
abbrev pub lends_cells : Lft → (V : RattleType) → GName → List (Ptr × V.Denot) → Fml
lends_cells l V name cells = fsep (fobs name ((coded_list V.coded).code (map (λ c. c.1) cells)))
    (fbor l (Body (Scattered V (map (λ c. c.0) cells)) 0 0 name))
