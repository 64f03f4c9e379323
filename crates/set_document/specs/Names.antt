-- The names of the lines of a document, and where each stands last.
use Rattle.std.specs.Prelude.{◌≡◌, ℕ, suc, if◌then◌else◌, List, [], ◌∷◌, bytes_eq, Option, Some, None, option_map, map, fold}
use Rattle.std.specs.declared.cmp.Ordering.{Ordering}
use Rattle.std.specs.Cmp.Lexicographic.{slice_cmp}
use Rattle.std.specs.Ordering.{nat_cmp}
use Rattle.ordered_lists.specs.Lists.{to_key, find, add}
use Rattle.set_document.specs.Words.{letters}
use Rattle.set_document.specs.declared.word.Name.{Name}

-- the place of the last of these names that is `name`, counted from 0, or none
abbrev pub last_place : List (List ℕ) → List ℕ → Option ℕ
last_place [] name = None
last_place (n ∷ names) name =
    elim (last_place names name) [ Some i ↦ Some (suc i) | None ↦ if bytes_eq n name then Some 0 else None ]

-- the order of names: by their bytes, and a name before each longer one that begins with it
abbrev pub bytes_cmp : List ℕ → List ℕ → Ordering
bytes_cmp = slice_cmp nat_cmp

abbrev pub name_cmp : Name → Name → Ordering
name_cmp a b = bytes_cmp (letters a) (letters b)

-- each of these names once, in their order
abbrev pub distinct_names : List (List ℕ) → List (List ℕ)
distinct_names names = fold (add bytes_cmp) [] names

-- each of these names once, in their order, with the place of the last that is it
abbrev pub with_last_places : List (List ℕ) → List (List ℕ × Option ℕ)
with_last_places names = map (λ name. (name, last_place names name)) (distinct_names names)

-- the pairs say of each name where it stands last among `names`
pub record IsIndex (names : List (List ℕ)) (pairs : List (Name × ℕ)) : Type 0 where
  pub finds : (name : Name) → option_map (λ p. p.1) (find (to_key name_cmp) pairs name) ≡ last_place names (letters name)
  pub lists : map (λ p. (letters p.0, Some p.1)) pairs ≡ with_last_places names

-- for each distinct name, in order, the place of its last line
abbrev pub AreLastPlaces : List (List ℕ) → List ℕ → Type 0
AreLastPlaces names places = map (last_place names) (distinct_names names) ≡ map (λ s. Some s) places
