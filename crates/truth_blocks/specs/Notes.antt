-- What a walk over visited numbers notes of lines.
use Rattle.std.specs.Prelude.{ℕ, ◌+◌, ◌-◌, ◌==◌, ℤ, Bool, false, if◌then◌else◌, List, [], ◌∷◌, ◌++◌, map}
use Rattle.number_line.specs.Ranges.{xor}
use Rattle.number_line.specs.Segments.{same_bool}
use Rattle.truth_blocks.specs.Blocks.{is_one}
use Rattle.truth_blocks.specs.declared.note.Noted.{Noted}

-- bit i of a word isn't the one before it, where `before` stands before the first
abbrev pub is_change : ℕ → Bool → ℕ → Bool
is_change word before i = xor (is_one word i) (if i == 0 then before else is_one word (i - 1))

-- those of the items that stand at ones of the word, from bit i on
abbrev pub items_at_ones : {A : Type 0} → ℕ → ℕ → List A → List A
items_at_ones word i [] = []
items_at_ones word i (x ∷ xs) = if is_one word i then x ∷ items_at_ones word (i + 1) xs else items_at_ones word (i + 1) xs

-- the value at the last visited number and the numbers noted, after one more number
abbrev pub note : Bool × List ℤ → Bool → ℤ → Bool × List ℤ
note s now x = (now, if same_bool s.0 now then s.1 else s.1 ++ x ∷ [])

-- the same after numbers that stand at the places from p on, where f gives the value at each place
abbrev pub note_from : (ℕ → Bool) → ℕ → Bool × List ℤ → List ℤ → Bool × List ℤ
note_from f p s [] = s
note_from f p s (x ∷ xs) = note_from f (p + 1) (note s (f p) x) xs

-- the notes of many lines after a block, each line with its word
abbrev pub note_words : List ℕ → List (Bool × List ℤ) → List ℤ → List (Bool × List ℤ)
note_words [] notes block = []
note_words (w ∷ ws) [] block = []
note_words (w ∷ ws) (s ∷ ss) block = note_from (is_one w) 0 s block ∷ note_words ws ss block

-- the notes of many lines after one more number, at which they have these values
abbrev pub note_all : List (Bool × List ℤ) → List Bool → ℤ → List (Bool × List ℤ)
note_all [] values x = []
note_all (s ∷ ss) [] x = []
note_all (s ∷ ss) (b ∷ bs) x = note s b x ∷ note_all ss bs x

-- the same after numbers that stand at the places from p on
abbrev pub walk_places : (ℕ → List Bool) → ℕ → List (Bool × List ℤ) → List ℤ → List (Bool × List ℤ)
walk_places values p notes [] = notes
walk_places values p notes (x ∷ xs) = walk_places values (p + 1) (note_all notes (values p) x) xs

-- the program's notes
abbrev pub state : Noted → Bool × List ℤ
state n = (n.value, n.numbers.items)

abbrev pub states : List Noted → List (Bool × List ℤ)
states ns = map state ns

-- nothing noted of each line
abbrev pub no_notes : {A : Type 0} → List A → List (Bool × List ℤ)
no_notes lines = map (λ _. (false, [])) lines

-- the values of the lines at the last visited number
abbrev pub noted_values : List Noted → List Bool
noted_values ns = map (λ n. n.value) ns
