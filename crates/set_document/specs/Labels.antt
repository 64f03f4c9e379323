-- The names of a document as rows write them, one behind the other in one piece.
use Rattle.std.specs.Prelude.{◌≡◌, ℕ, zero, suc, ◌≤◌, ◌++◌, List, [], ◌∷◌, length, take, codes, flat_map, slice_get, Some}
use Rattle.set_document.specs.declared.labels.Labels.{Labels}

-- a name behind a space
abbrev pub label : List ℕ → List ℕ
label name = codes " " ++ name

-- where the label of the name at a place begins, or where the last one ends
abbrev pub label_start : List (List ℕ) → ℕ → ℕ
label_start names i = length (flat_map label (take i names))

-- the labels of the names, and where each begins and the last one ends
pub record AreLabels (names : List (List ℕ)) (bytes starts : List ℕ) : Type 0 where
  pub one_piece : bytes ≡ flat_map label names
  pub begin : (i : ℕ) → i ≤ length names → slice_get starts i ≡ Some (label_start names i)
  pub each : length starts ≡ suc (length names)

abbrev pub HasLabels : List (List ℕ) → Labels → Type 0
HasLabels names labels = AreLabels names labels.bytes.items labels.starts.items

-- so many places that follow each other, from a first one on
abbrev pub places_from : ℕ → ℕ → List ℕ
places_from p zero = []
places_from p (suc m) = p ∷ places_from (suc p) m
