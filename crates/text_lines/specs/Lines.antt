-- The lines of a text, and the words of a line. A text is the list of its bytes.
use Rattle.std.specs.Prelude.{ℕ, ◌+◌, ◌-◌, slice_index, Bool, ◌&&◌, ◌==◌, nat_lt, if◌then◌else◌, List, [], ◌∷◌, length, Option, Some, None}
use Rattle.std.specs.List.{slice_split, onto_first}

-- the lines of a text: the pieces that end with a line feed, each with it, and one last piece without where bytes remain
abbrev pub lines : List ℕ → List (List ℕ)
lines [] = []
lines (b ∷ bs) = if b == 10 then (b ∷ []) ∷ lines bs else onto_first b (lines bs)

abbrev pub ends_with_feed : List ℕ → Bool
ends_with_feed line = nat_lt 0 (length line) && (slice_index line (length line - 1) == 10)

-- the words of a line: the pieces between single spaces of these bytes, and none where there are no bytes to read
abbrev pub words : Option (List ℕ) → List (List ℕ)
words None = []
words (Some bytes) = slice_split (λ b. b == 32) bytes

-- how many bytes are left of a line, with one for the space before them
abbrev pub left_len : Option (List ℕ) → ℕ
left_len None = 0
left_len (Some rest) = length rest + 1
