-- The first fault of a document: lines are judged in order, in a line its form first, then its words, and last the number of sets left.
use Rattle.std.specs.Prelude.{◌≡◌, ℕ, ◌+◌, ◌-◌, ◌==◌, nat_lt, if◌then◌else◌, List, [], ◌∷◌, ◌++◌, map, bytes_eq, int_lt, Option, Some, None}
use Rattle.std.specs.List.{list_any}
use Rattle.set_document.specs.declared.fault.AlgebraError.{AlgebraError}
use Rattle.set_document.specs.declared.fault.AlgebraError.TheVariants.{BadLine, BadWord, Reversed, UnknownName, StackShort, NotOne}
use Rattle.text_lines.specs.Faults.{first_fault_from}
use Rattle.text_lines.specs.Lines.{lines, words}
use Rattle.set_document.specs.Text.{form, kind, Form, Kind, Number, Span, Empty, Full, Name, Not, Or, And, Minus, Xor, Comment, Named, Bad}

-- the number of sets after a word, or the fault at it: known are the names of the lines before
pub data Step : Type 0 where
  Depth : ℕ → Step
  Fault : AlgebraError → Step

-- an operator that needs so many sets leaves one in their place
abbrev pub operator : ℕ → ℕ → ℕ → ℕ → Step
operator line word needs depth = if nat_lt depth needs then Fault (StackShort line word) else Depth ((depth + 1) - needs)

-- the first that applies: no word, a reversed range, an unknown name, too few sets
abbrev pub judge_word : List (List ℕ) → ℕ → ℕ → ℕ → Option Kind → Step
judge_word known line word depth None = Fault (BadWord line word)
judge_word known line word depth (Some (Number n)) = Depth (depth + 1)
judge_word known line word depth (Some (Span s e)) = if int_lt e s then Fault (Reversed line word) else Depth (depth + 1)
judge_word known line word depth (Some Empty) = Depth (depth + 1)
judge_word known line word depth (Some Full) = Depth (depth + 1)
judge_word known line word depth (Some (Name name)) =
    if list_any (λ n. bytes_eq n name) known then Depth (depth + 1) else Fault (UnknownName line word)
judge_word known line word depth (Some Not) = operator line word 1 depth
judge_word known line word depth (Some Or) = operator line word 2 depth
judge_word known line word depth (Some And) = operator line word 2 depth
judge_word known line word depth (Some Minus) = operator line word 2 depth
judge_word known line word depth (Some Xor) = operator line word 2 depth

-- the first fault in the words from number `word` on
abbrev pub fault_in_words : List (List ℕ) → ℕ → ℕ → ℕ → List (List ℕ) → Option AlgebraError
fault_in_words known line word depth [] = if depth == 1 then None else Some (NotOne line)
fault_in_words known line word depth (piece ∷ pieces) =
    elim (judge_word known line word depth (kind piece)) [ Depth d ↦ fault_in_words known line (word + 1) d pieces | Fault f ↦ Some f ]

-- the first fault of a line by its form
abbrev pub fault_in_form : List (List ℕ) → ℕ → Form → Option AlgebraError
fault_in_form known line Comment = None
fault_in_form known line (Named name rest) = fault_in_words known line 1 0 (words rest)
fault_in_form known line Bad = Some (BadLine line)

-- the names known after a line
abbrev pub names_after : List (List ℕ) → Form → List (List ℕ)
names_after known Comment = known
names_after known (Named name rest) = known ++ name ∷ []
names_after known Bad = known

-- the first fault in the lines from number `line` on
abbrev pub fault_from : List (List ℕ) → ℕ → List (List ℕ) → Option AlgebraError
fault_from known line ls = first_fault_from fault_in_form names_after known line (map form ls)

-- the first fault of a text, whose lines and words count from 1, or none
unfoldable pub first_fault : List ℕ → Option AlgebraError
first_fault text = fault_from [] 1 (lines text)

-- a text without a fault
abbrev pub IsWellFormed : List ℕ → Type 0
IsWellFormed text = first_fault text ≡ None
