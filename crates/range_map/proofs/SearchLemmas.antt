-- What a binary search finds in a list of ranges, and in a list of ranges that carry a value each.
use Rattle.std.specs.Prelude.{◌≡◌, ℕ, zero, suc, ℤ, pos, ◌<◌, ◌≤◌, ◌+ℤ◌, ◌≤ℤ◌, Bool, true, false, ◌||◌, Some, None, List, [], ◌∷◌, length, map, refl, Result, Ok, Err, is_ok}
use Rattle.std.specs.declared.cmp.Ordering.TheVariants.{Less, Equal, Greater}
use Rattle.std.specs.Ordering.{ordering_index}
use Rattle.std.specs.List.{list_any}
use Rattle.std.specs.List.Sorted.{IsBinarySearchResult, IsSearchInRange}
use Rattle.std.proofs.Common.{arith, sym, ◌∙◌, ap, get_or, inl, inr}
use Rattle.std.proofs.lemmas.Int.{ints}
use Rattle.std.proofs.lemmas.List.Folds.{list_any_at, list_any_none}
use Rattle.std.proofs.lemmas.List.Elements.{All-from_get_or}
use Rattle.std.proofs.lemmas.Bool.{cases_lt}
use Rattle.number_line.specs.Ranges.{lies_in, holds, IsCanonical}
use Rattle.number_line.specs.Valued.{value_at, IsCanonicalMap}
use Rattle.range_map.specs.Range.{place_beside}

-- the ranges ascend from lo without overlap
abbrev pub IsApart : ℤ → List (ℤ × ℤ) → Type 0
IsApart lo [] = Unit {0}
IsApart lo (r ∷ rest) = (lo ≤ℤ r.0) × (r.0 ≤ℤ r.1) × IsApart (r.1 +ℤ pos 1) rest

apart-lower : (lo low : ℤ) (rs : List (ℤ × ℤ)) → low ≤ℤ lo → IsApart lo rs → IsApart low rs
apart-lower lo low [] h c = tt
apart-lower lo low (r ∷ rest) h c = (omega (arith, ints), c.1, c.2)

canonical_apart : (lo hi : ℤ) (rs : List (ℤ × ℤ)) → IsCanonical lo hi rs → IsApart lo rs
canonical_apart lo hi [] c = tt
canonical_apart lo hi (r ∷ rest) c =
    (c.0, c.1, apart-lower (r.1 +ℤ pos 2) (r.1 +ℤ pos 1) rest (omega (arith, ints)) (canonical_apart (r.1 +ℤ pos 2) hi rest c.3))

equal_inside : (x : ℤ) (r : ℤ × ℤ) → place_beside x r ≡ Equal → lies_in r x ≡ true
equal_inside x r h = grind (arith, ints)

less_outside : (x : ℤ) (r : ℤ × ℤ) → place_beside x r ≡ Less → lies_in r x ≡ false
less_outside x r h = grind (arith, ints)

greater_outside : (x : ℤ) (r : ℤ × ℤ) → place_beside x r ≡ Greater → lies_in r x ≡ false
greater_outside x r h = grind (arith, ints)

places : (x : ℤ) (r s : ℤ × ℤ) → r.0 ≤ℤ r.1 → (r.1 +ℤ pos 1) ≤ℤ s.0 → s.0 ≤ℤ s.1
    → ordering_index (place_beside x r) ≤ ordering_index (place_beside x s)
places x r s p q h = grind (arith, ints)

-- items that hold a range each, as `ends` reads it
module _ {A : Type 0} (ends : A → ℤ × ℤ) where
  from_start : (lo : ℤ) (xs : List A) (j : ℕ) (d : A) → IsApart lo (map ends xs) → j < length xs
      → (lo ≤ℤ (ends (get_or xs j d)).0) × ((ends (get_or xs j d)).0 ≤ℤ (ends (get_or xs j d)).1)
  from_start lo [] j d c h = absurd (omega arith)
  from_start lo (x ∷ xs) zero d c h = (c.0, c.1)
  from_start lo (x ∷ xs) (suc j) d c h =
      let k = from_start ((ends x).1 +ℤ pos 1) xs j d c.2 (omega arith) in
      let ordered : (ends x).0 ≤ℤ (ends x).1 = c.1 in
      let low : lo ≤ℤ (ends x).0 = c.0 in
      let next : ((ends x).1 +ℤ pos 1) ≤ℤ (ends (get_or xs j d)).0 = k.0 in
      (omega (arith, ints), k.1)

  places_rise : (lo : ℤ) (xs : List A) (x : ℤ) → IsApart lo (map ends xs)
      → (i j : ℕ) (d : A) → i ≤ j → j < length xs
      → ordering_index (place_beside x (ends (get_or xs i d))) ≤ ordering_index (place_beside x (ends (get_or xs j d)))
  places_rise lo [] x c i j d p q = absurd (omega arith)
  places_rise lo (r ∷ rs) x c zero zero d p q = omega arith
  places_rise lo (r ∷ rs) x c zero (suc j) d p q =
      let k = from_start ((ends r).1 +ℤ pos 1) rs j d c.2 (omega arith) in
      places x (ends r) (ends (get_or rs j d)) c.1 k.0 k.1
  places_rise lo (r ∷ rs) x c (suc i) zero d p q = absurd (omega arith)
  places_rise lo (r ∷ rs) x c (suc i) (suc j) d p q =
      places_rise ((ends r).1 +ℤ pos 1) rs x c.2 i j d (omega arith) (omega arith)

  -- where the search finds nothing, no range is around x
  missing : (lo : ℤ) (xs : List A) (x : ℤ) (i : ℕ) (d : A) → IsApart lo (map ends xs)
      → IsBinarySearchResult (λ r. place_beside x (ends r)) xs (Err i) → (k : ℕ) → k < length xs → i ≤ length xs → lies_in (ends (get_or xs k d)) x ≡ false
  missing lo xs x i d c h k q b =
      let p = h (places_rise lo xs x c) in
      elim (cases_lt k i) [ inl u ↦ less_outside x (ends (get_or xs k d)) (p.0 k d (omega arith) u) | inr u ↦ greater_outside x (ends (get_or xs k d)) (p.1 k d u q) ]

  some_holds : (xs : List A) (x : ℤ) → list_any (λ r. lies_in (ends r) x) xs ≡ holds (map ends xs) x
  some_holds [] x = refl
  some_holds (r ∷ rs) x = ap (λ b. lies_in (ends r) x || b) (some_holds rs x)

  found : (lo : ℤ) (xs : List A) (x : ℤ) (d : A) → IsApart lo (map ends xs) → (r : Result ℕ ℕ) → IsSearchInRange r (length xs)
      → IsBinarySearchResult (λ r. place_beside x (ends r)) xs r → is_ok r ≡ list_any (λ r. lies_in (ends r) x) xs
  found lo xs x d c (Ok i) b h = sym (list_any_at (λ r. lies_in (ends r) x) xs i d b (equal_inside x (ends (get_or xs i d)) (h d)))
  found lo xs x d c (Err i) b h =
      sym (list_any_none (λ r. lies_in (ends r) x) xs (All-from_get_or (λ r. lies_in (ends r) x ≡ false) xs d
      (λ k q. missing lo xs x i d c h k q b)))

  -- the search finds a range exactly where some range holds x
  pub found_holds : (lo hi : ℤ) (xs : List A) (x : ℤ) (d : A) → IsCanonical lo hi (map ends xs) → (r : Result ℕ ℕ) → IsSearchInRange r (length xs)
      → IsBinarySearchResult (λ r. place_beside x (ends r)) xs r → is_ok r ≡ holds (map ends xs) x
  found_holds lo hi xs x d c r b h = found lo xs x d (canonical_apart lo hi (map ends xs) c) r b h ∙ some_holds xs x

-- items that hold a range and a value each
module _ {A V : Type 0} (ends : A → ℤ × ℤ) (value : A → V) where
  abbrev shown : List A → List ((ℤ × ℤ) × V)
  shown xs = map (λ a. (ends a, value a)) xs

  map_apart : (same : V → V → Bool) (lo hi : ℤ) (xs : List A) → IsCanonicalMap same lo hi (shown xs) → IsApart lo (map ends xs)
  map_apart same lo hi [] c = tt
  map_apart same lo hi (a ∷ xs) c = (c.0, c.1, map_apart same ((ends a).1 +ℤ pos 1) hi xs c.4)

  above_outside : (x : ℤ) (r s : ℤ × ℤ) → (r.1 +ℤ pos 1) ≤ℤ s.0 → lies_in s x ≡ true → lies_in r x ≡ false
  above_outside x r s h k = grind (arith, ints)

  value_there : (lo : ℤ) (xs : List A) (x : ℤ) (i : ℕ) (d : A) → IsApart lo (map ends xs) → i < length xs
      → lies_in (ends (get_or xs i d)) x ≡ true → value_at (shown xs) x ≡ Some (value (get_or xs i d))
  value_there lo [] x i d c p h = absurd (omega arith)
  value_there lo (a ∷ xs) x zero d c p h = rw h refl
  value_there lo (a ∷ xs) x (suc i) d c p h =
      let k = from_start ends ((ends a).1 +ℤ pos 1) xs i d c.2 (omega arith) in
      let out : lies_in (ends a) x ≡ false = above_outside x (ends a) (ends (get_or xs i d)) k.0 h in
      rw out (value_there ((ends a).1 +ℤ pos 1) xs x i d c.2 (omega arith) h)

  no_value : (xs : List A) (x : ℤ) (d : A) → ((k : ℕ) → k < length xs → lies_in (ends (get_or xs k d)) x ≡ false) → value_at (shown xs) x ≡ None
  no_value [] x d h = refl
  no_value (a ∷ xs) x d h =
      let out : lies_in (ends a) x ≡ false = h 0 (omega arith) in
      rw out (no_value xs x d (λ k p. h (suc k) (omega arith)))

  -- the search finds the range around x, and its value is the one at x
  pub found_value : (same : V → V → Bool) (lo hi : ℤ) (xs : List A) (x : ℤ) (i : ℕ) (d : A) → IsCanonicalMap same lo hi (shown xs) → i < length xs
      → IsBinarySearchResult (λ a. place_beside x (ends a)) xs (Ok i) → value_at (shown xs) x ≡ Some (value (get_or xs i d))
  found_value same lo hi xs x i d c b h =
      value_there lo xs x i d (map_apart same lo hi xs c) b (equal_inside x (ends (get_or xs i d)) (h d))

  -- and where it finds none, there is no value at x
  pub missing_value : (same : V → V → Bool) (lo hi : ℤ) (xs : List A) (x : ℤ) (i : ℕ) → IsCanonicalMap same lo hi (shown xs) → i ≤ length xs
      → IsBinarySearchResult (λ a. place_beside x (ends a)) xs (Err i) → value_at (shown xs) x ≡ None
  missing_value same lo hi [] x i c b h = refl
  missing_value same lo hi (a ∷ xs) x i c b h =
      no_value (a ∷ xs) x a (λ k q. missing ends lo (a ∷ xs) x i a (map_apart same lo hi (a ∷ xs) c) h k q b)
