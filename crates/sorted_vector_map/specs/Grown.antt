-- What many new pairs make of a map's pairs.
use Rattle.std.specs.Prelude.{List, [], ◌∷◌, Option}
use Rattle.std.specs.declared.cmp.Ordering.{Ordering}
use Rattle.std.specs.Iterator.{Drains}
use Rattle.ordered_lists.specs.Lists.{by_key, put, sets}

-- no pair changes nothing, one pair leaves a stored key in place, and more pairs take the places of stored ones
abbrev pub after_extending : {K V : Type 0} → (K → K → Ordering) → List (K × V) → List (K × V) → List (K × V)
after_extending cmp ps [] = ps
after_extending cmp ps (p ∷ []) = put cmp ps p.0 p.1
after_extending cmp ps (p ∷ q ∷ new) = sets (by_key cmp) ps (p ∷ q ∷ new)
