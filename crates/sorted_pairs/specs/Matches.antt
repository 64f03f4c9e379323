-- One walk along two lists of pairs that ascend by their keys: the working form of the four joins.
use Rattle.std.specs.Prelude.{◌≡◌, Bool, true, false, List, [], ◌∷◌, ◌++◌, map, Option, Some, None, option_to_list, if◌then◌else◌}
use Rattle.std.specs.declared.cmp.Ordering.{Ordering}
use Rattle.std.specs.Ordering.{match_ordering}
use Rattle.ordered_lists.specs.Walks.{keep}
use Rattle.sorted_pairs.specs.declared.matching.EitherOrBoth.{EitherOrBoth}
use Rattle.sorted_pairs.specs.declared.matching.EitherOrBoth.TheVariants.{Left, Both, Right}

-- pairs of two lists, compared by their keys
abbrev pub across : {K V W : Type 0} → (K → K → Ordering) → K × V → K × W → Ordering
across cmp p q = cmp p.0 q.0

-- The walk takes the lesser of two heads, or both where they are equal. It gives the items that are on the left alone where `left`
-- is true, those that are equal where `both` is, and those that are on the right alone where `right` is.
module _ {A B : Type 0} (cmp : A → B → Ordering) (left both right : Bool) where
  -- the walk with x in hand and then xs on the left, where `on` is the walk of xs
  abbrev pub matches_from : A → List A → (List B → List (EitherOrBoth A B)) → List B → List (EitherOrBoth A B)
  matches_from x xs on [] = if left then map Left (x ∷ xs) else []
  matches_from x xs on (y ∷ ys) = match_ordering (cmp x y) (keep left (Left x) (on (y ∷ ys))) (keep both (Both x y) (on ys))
      (keep right (Right y) (matches_from x xs on ys))

  abbrev pub matches : List A → List B → List (EitherOrBoth A B)
  matches [] ys = if right then map Right ys else []
  matches (x ∷ xs) ys = matches_from x xs (matches xs) ys

-- whether it is given
abbrev pub IsWanted : {A B : Type 0} → Bool → Bool → Bool → EitherOrBoth A B → Type 0
IsWanted left both right (Left x) = left ≡ true
IsWanted left both right (Both x y) = both ≡ true
IsWanted left both right (Right y) = right ≡ true

-- the items that `view` reads, in order
abbrev pub read_all : {M C : Type 0} → (M → Option C) → List M → List C
read_all view [] = []
read_all view (m ∷ ms) = option_to_list (view m) ++ read_all view ms

-- what each join makes of what two sources have at a key, if anything
module _ {K V W : Type 0} where
  abbrev pub item_of_both : EitherOrBoth (K × V) (K × W) → Option (K × (V × W))
  item_of_both (Left p) = None
  item_of_both (Both p q) = Some (p.0, (p.1, q.1))
  item_of_both (Right q) = None

  abbrev pub item_of_left : EitherOrBoth (K × V) (K × W) → Option (K × (V × Option W))
  item_of_left (Left p) = Some (p.0, (p.1, None))
  item_of_left (Both p q) = Some (p.0, (p.1, Some q.1))
  item_of_left (Right q) = None

  abbrev pub item_of_right : EitherOrBoth (K × V) (K × W) → Option (K × (Option V × W))
  item_of_right (Left p) = None
  item_of_right (Both p q) = Some (q.0, (Some p.1, q.1))
  item_of_right (Right q) = Some (q.0, (None, q.1))

  abbrev pub item_of_either : EitherOrBoth (K × V) (K × W) → Option (K × (Option V × Option W))
  item_of_either (Left p) = Some (p.0, (Some p.1, None))
  item_of_either (Both p q) = Some (p.0, (Some p.1, Some q.1))
  item_of_either (Right q) = Some (q.0, (None, Some q.1))

  module _ (cmp : K → K → Ordering) where
    abbrev pub join_walk : List (K × V) → List (K × W) → List (K × (V × W))
    join_walk xs ys = read_all item_of_both (matches (across cmp) false true false xs ys)

    abbrev pub left_join_walk : List (K × V) → List (K × W) → List (K × (V × Option W))
    left_join_walk xs ys = read_all item_of_left (matches (across cmp) true true false xs ys)

    abbrev pub right_join_walk : List (K × V) → List (K × W) → List (K × (Option V × W))
    right_join_walk xs ys = read_all item_of_right (matches (across cmp) false true true xs ys)

    abbrev pub outer_join_walk : List (K × V) → List (K × W) → List (K × (Option V × Option W))
    outer_join_walk xs ys = read_all item_of_either (matches (across cmp) true true true xs ys)
