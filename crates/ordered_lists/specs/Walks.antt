-- One walk along two ascending lists: the working form of the four set operations.
use Rattle.std.specs.Prelude.{Bool, List, [], ◌∷◌, if◌then◌else◌}
use Rattle.std.specs.declared.cmp.Ordering.{Ordering}
use Rattle.std.specs.Ordering.{match_ordering}

-- x and then xs where x is wanted, else xs
abbrev pub keep : {A : Type 0} → Bool → A → List A → List A
keep wanted x xs = if wanted then x ∷ xs else xs

-- The walk takes the lesser of two heads, or both where they are equal. It gives the items that are on the left alone where
-- `left` is true, the left ones of equal items where `both` is, and the items that are on the right alone where `right` is.
module _ {A : Type 0} (cmp : A → A → Ordering) (left both right : Bool) where
  -- the walk with x in hand and then xs on the left, where `on` is the walk of xs
  abbrev pub walk_from : A → List A → (List A → List A) → List A → List A
  walk_from x xs on [] = if left then x ∷ xs else []
  walk_from x xs on (y ∷ ys) = match_ordering (cmp x y) (keep left x (on (y ∷ ys))) (keep both x (on ys))
      (keep right y (walk_from x xs on ys))

  abbrev pub walk : List A → List A → List A
  walk [] ys = if right then ys else []
  walk (x ∷ xs) ys = walk_from x xs (walk xs) ys
