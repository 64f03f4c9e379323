-- The rows: where the lines that are shown change.
use Rattle.std.specs.Prelude.{ℕ, ◌+◌, ◌-◌, ◌==◌, ◌<◌, ℤ, Bool, true, false, not, ◌||◌, nat_eq, if◌then◌else◌, List, [], ◌∷◌, map, get_or}
use Rattle.std.specs.Cmp.Lexicographic.{pointwise}
use Rattle.std.specs.List.{AllByRecursion, list_any}
use Rattle.truth_blocks.specs.Blocks.{values_of}
use Rattle.truth_blocks.specs.Notes.{is_change}
use Rattle.truth_blocks.specs.declared.step.Step.{Step}
use Rattle.truth_blocks.specs.declared.rows.Row.{Row}

-- each is the place of one of so many lines
abbrev pub ArePlaces : ℕ → List ℕ → Type 0
ArePlaces count shown = AllByRecursion (λ line. line < count) shown

-- the places in `shown`, counted from n, of the lines that are true
abbrev pub places_of_true : List Bool → ℕ → List ℕ → List ℕ
places_of_true values n [] = []
places_of_true values n (line ∷ rest) =
    if get_or values line false then n ∷ places_of_true values (n + 1) rest else places_of_true values (n + 1) rest

-- each number with the label of its place, where they stand at the places from p on
abbrev pub numbers_with_labels : (ℕ → List ℕ) → ℕ → List ℤ → List (ℤ × List ℕ)
numbers_with_labels label p [] = []
numbers_with_labels label p (x ∷ xs) = (x, label p) ∷ numbers_with_labels label (p + 1) xs

-- a row begins at the first place, and where the label isn't the one before
abbrev pub begins : (ℕ → List ℕ) → ℕ → Bool
begins label p = if p == 0 then true else not (pointwise nat_eq (label (p - 1)) (label p))

-- the rows that begin at these numbers, which stand at the places from p on
abbrev pub rows_from : (ℕ → List ℕ) → ℕ → List ℤ → List (ℤ × List ℕ)
rows_from label p [] = []
rows_from label p (x ∷ xs) =
    if begins label p then (x, label p) ∷ rows_from label (p + 1) xs else rows_from label (p + 1) xs

-- a row begins at bit i of a block whose first place is `base`, where `before` are the values at the place before
abbrev pub starts : List ℕ → List Bool → List ℕ → ℕ → ℕ → Bool
starts words before shown base i =
    (base + i == 0) || list_any (λ line. is_change (get_or words line 0) (get_or before line false) i) shown

-- the lines shown that are true at a place
abbrev pub label_of : List (List Step) → List ℕ → ℕ → List ℕ
label_of lines shown p = places_of_true (values_of lines p) 0 shown

-- a row as its first number and its label
abbrev pub row : Row → ℤ × List ℕ
row r = (r.first, r.held.items)

abbrev pub rows_of : List Row → List (ℤ × List ℕ)
rows_of rs = map row rs
