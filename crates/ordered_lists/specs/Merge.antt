-- Two lists in order as one.
use Rattle.std.specs.Prelude.{List, [], ◌∷◌}
use Rattle.std.specs.declared.cmp.Ordering.{Ordering}
use Rattle.std.specs.declared.cmp.Ordering.TheVariants.{Less, Greater}

-- which of the two lists has the least item: `Less` the first, `Greater` the second, `Equal` both
abbrev pub side : {A : Type 0} → (A → A → Ordering) → List A → List A → Ordering
side cmp [] ys = Greater
side cmp (x ∷ xs) [] = Less
side cmp (x ∷ xs) (y ∷ ys) = cmp x y
