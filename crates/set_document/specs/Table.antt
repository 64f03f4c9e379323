-- The table of a document: which names hold where.
use Rattle.std.specs.Prelude.{ℕ, ◌+◌, ℤ, Bool, false, if◌then◌else◌, List, [], ◌∷◌, map, nat_eq, unwrap_or}
use Rattle.std.specs.Cmp.Lexicographic.{pointwise}
use Rattle.number_line.specs.Segments.{Segment, segments}
use Rattle.set_document.specs.Names.{distinct_names}
use Rattle.set_document.specs.Numbers.{least, above_least}
use Rattle.set_document.specs.Truth.{at, latest, named_lines}

-- the distinct names of a text, in the order of their bytes
unfoldable pub names : List ℕ → List (List ℕ)
names text = distinct_names (map (λ l. l.0) (named_lines text))

-- the indices, counted from n, of the names that pass the test
abbrev pub indices_where : (List ℕ → Bool) → ℕ → List (List ℕ) → List ℕ
indices_where test n [] = []
indices_where test n (name ∷ rest) = if test name then n ∷ indices_where test (n + 1) rest else indices_where test (n + 1) rest

-- whether the latest of these lines of that name is true
abbrev pub is_held : List (List ℕ × Bool) → List ℕ → Bool
is_held lines name = unwrap_or (latest lines name) false

-- the names that hold where the lines give these values, each by its index among the distinct names, ascending
abbrev pub names_held : List (List ℕ × Bool) → List ℕ
names_held lines = indices_where (is_held lines) 0 (distinct_names (map (λ l. l.0) lines))

-- the numbers from a row's first to its last, and the names that hold there
abbrev pub row_of : Segment (List ℕ) → (ℤ × ℤ) × List ℕ
row_of s = ((s.first, s.last), s.label)

-- the rows of a text: the numbers cut where the names that hold change
unfoldable pub rows : List ℕ → List ((ℤ × ℤ) × List ℕ)
rows text = map row_of (segments (pointwise nat_eq) (λ x. names_held (at (named_lines text) x)) least above_least)
