-- The lines and the sets that the evaluator holds, in the terms of the definitions.
use Rattle.std.specs.Prelude.{◌≡◌, ℕ, ℤ, ◌≤ℤ◌, Bool, List, map, reverse, All}
use Rattle.number_line.specs.Ranges.{holds, IsCanonical}
use Rattle.set_document.specs.Numbers.{least, greatest}
use Rattle.set_document.specs.Truth.{at}
use Rattle.set_document.specs.Words.{letters}
use Rattle.set_document.specs.declared.named_lines.Line.{Line}
use Rattle.set_document.specs.declared.truth.Known.{Known}

-- what the sets of a stack give at x, the last one first
abbrev pub values : List (List (ℤ × ℤ)) → ℤ → List Bool
values stack x = reverse (map (λ s. holds s x) stack)

-- the lines held, each as its name and its ranges
abbrev pub line_lists_of : List Line → List (List ℕ × List (ℤ × ℤ))
line_lists_of lines = map (λ l. (letters l.name, l.set)) lines

-- lines of names with ranges, each with its truth at every number
abbrev pub lines_of : List (List ℕ × List (ℤ × ℤ)) → List (List ℕ × (ℤ → Bool))
lines_of lines = map (λ l. (l.0, holds l.1)) lines

abbrev pub names_of : List (List ℕ × List (ℤ × ℤ)) → List (List ℕ)
names_of lines = map (λ l. l.0) lines

-- the two give the same at each number of the type
abbrev pub Agree : List (List ℕ × (ℤ → Bool)) → List (List ℕ × (ℤ → Bool)) → Type 0
Agree some others = (x : ℤ) → least ≤ℤ x → x ≤ℤ greatest → at some x ≡ at others x

abbrev pub AllCanonical : List (List ℕ × List (ℤ × ℤ)) → Type 0
AllCanonical lines = All (λ l. IsCanonical least greatest l.1) lines

-- the lines held by the plain reader, as names with a truth at one number
abbrev pub pairs_of : List Known → List (List ℕ × Bool)
pairs_of done = map (λ k. (letters k.name, k.value)) done
