-- Lists in order: how an item is found, and how one is placed, and the set operations on such lists.
--
-- A list ascends where std's `IsStrictlySortedBy` says so: each item is less than those after it. Equal items are those that
-- compare as equal; they may differ in what the comparison doesn't look at, and so each definition says which one stays.
use Rattle.std.specs.Prelude.{Bool, not, List, [], ◌∷◌, Option, Some, None, is_some, if◌then◌else◌}
use Rattle.std.specs.declared.cmp.Ordering.{Ordering}
use Rattle.std.specs.Ordering.{match_ordering, is_eq}
use Rattle.std.specs.List.{fold, filter}

-- pairs, compared by their keys
abbrev pub by_key : {K V : Type 0} → (K → K → Ordering) → K × V → K × V → Ordering
by_key cmp p q = cmp p.0 q.0

-- a pair and a key, compared by the pair's key
abbrev pub to_key : {K V : Type 0} → (K → K → Ordering) → K × V → K → Ordering
to_key cmp p k = cmp p.0 k

-- looking for a key among items, which `cmp` compares with keys
module _ {A K : Type 0} (cmp : A → K → Ordering) where
  -- the first item that is equal to the key
  abbrev pub find : List A → K → Option A
  find [] k = None
  find (x ∷ xs) k = if is_eq (cmp x k) then Some x else find xs k

  -- whether some item is equal to the key
  abbrev pub has : List A → K → Bool
  has xs k = is_some (find xs k)

  -- the items without the first one that is equal to the key
  abbrev pub take_out : List A → K → List A
  take_out [] k = []
  take_out (x ∷ xs) k = if is_eq (cmp x k) then xs else x ∷ take_out xs k

-- placing items, and the set operations
module _ {A : Type 0} (cmp : A → A → Ordering) where
  -- x before the first item that is greater; the list as it is where an item is equal to x
  abbrev pub add : List A → A → List A
  add [] x = x ∷ []
  add (y ∷ ys) x = match_ordering (cmp y x) (y ∷ add ys x) (y ∷ ys) (x ∷ y ∷ ys)

  -- x before the first item that is greater; in the place of the item that is equal to x, where one is
  abbrev pub set : List A → A → List A
  set [] x = x ∷ []
  set (y ∷ ys) x = match_ordering (cmp y x) (y ∷ set ys x) (x ∷ ys) (x ∷ y ∷ ys)

  -- each item of `new` in turn takes its place
  abbrev pub sets : List A → List A → List A
  sets xs new = fold set xs new

  -- every item of either list; of two equal items that of xs
  abbrev pub union : List A → List A → List A
  union xs ys = fold add xs ys

  -- the items of xs to which an item of ys is equal
  abbrev pub intersection : List A → List A → List A
  intersection xs ys = filter (has cmp ys) xs

  -- the items of xs to which no item of ys is equal
  abbrev pub difference : List A → List A → List A
  difference xs ys = filter (λ x. not (has cmp ys x)) xs

  -- the items of either list to which no item of the other is equal
  abbrev pub symmetric_difference : List A → List A → List A
  symmetric_difference xs ys = union (difference xs ys) (difference ys xs)

-- the pair of a present key takes the value v and keeps its key; else (k, v) goes before the first greater key
abbrev pub put : {K V : Type 0} → (K → K → Ordering) → List (K × V) → K → V → List (K × V)
put cmp [] k v = (k, v) ∷ []
put cmp (p ∷ ps) k v = match_ordering (cmp p.0 k) (p ∷ put cmp ps k v) ((p.0, v) ∷ ps) ((k, v) ∷ p ∷ ps)
