-- What the answer to a document says, and how it is written.
use Rattle.std.specs.Prelude.{ℕ, ℤ, List, [], ◌∷◌, ◌++◌, map, flat_map, codes, slice_get, Some, None}
use Rattle.std.specs.Fmt.{signed_decimal}
use Rattle.set_document.specs.Numbers.{i64_runs}
use Rattle.set_document.specs.Table.{names, rows}
use Rattle.set_document.specs.Truth.{named_lines}

-- a range as it is written in a document
abbrev pub range_text : ℤ × ℤ → List ℕ
range_text r = signed_decimal r.0 ++ (codes "..=" ++ signed_decimal r.1)

-- the ranges after the first, each joined to those before it by `|`
abbrev pub further_text : List (ℤ × ℤ) → List ℕ
further_text [] = []
further_text (r ∷ rs) = codes " " ++ (range_text r ++ (codes " |" ++ further_text rs))

-- a list of ranges as the words that make it
abbrev pub list_text : List (ℤ × ℤ) → List ℕ
list_text [] = codes "empty"
list_text (r ∷ rs) = range_text r ++ further_text rs

-- a name and its ranges on a line
abbrev pub line_text : List ℕ × List (ℤ × ℤ) → List ℕ
line_text l = l.0 ++ (codes ": " ++ (list_text l.1 ++ codes "\n"))

abbrev pub lines_text : List (List ℕ × List (ℤ × ℤ)) → List ℕ
lines_text ls = flat_map line_text ls

-- the named lines of a text in order, each with its name and the maximal runs of the numbers at which it is true
unfoldable pub line_lists : List ℕ → List (List ℕ × List (ℤ × ℤ))
line_lists text = map (λ l. (l.0, i64_runs l.1)) (named_lines text)

-- a name behind a space, where there is one at that index
abbrev pub name_text : List (List ℕ) → ℕ → List ℕ
name_text names i = elim (slice_get names i) [ Some name ↦ codes " " ++ name | None ↦ [] ]

-- a row of the table on a line: its numbers, and each name that holds there
abbrev pub row_text : List (List ℕ) → (ℤ × ℤ) × List ℕ → List ℕ
row_text names row = codes "# " ++ (range_text row.0 ++ (flat_map (name_text names) row.1 ++ codes "\n"))

abbrev pub rows_text : List (List ℕ) → List ((ℤ × ℤ) × List ℕ) → List ℕ
rows_text names rows = flat_map (row_text names) rows

-- what an answer says: each named line with its ranges, the distinct names in order, and the rows of the table, each with the indices of
-- the names that hold there
pub record Shape : Type 0 where
  pub lines : List (List ℕ × List (ℤ × ℤ))
  pub names : List (List ℕ)
  pub rows : List ((ℤ × ℤ) × List ℕ)

unfoldable pub shape : List ℕ → Shape
shape text = record { lines = line_lists text; names = names text; rows = rows text }

-- the bytes of what an answer says: its lines, and then its rows
abbrev pub shape_text : Shape → List ℕ
shape_text shape = lines_text shape.lines ++ rows_text shape.names shape.rows

-- what is written for a text without a fault: its list lines, and then its table
unfoldable pub answer : List ℕ → List ℕ
answer text = shape_text (shape text)
