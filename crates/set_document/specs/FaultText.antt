-- How a fault is written, and what is written for a text.
use Rattle.std.specs.Prelude.{ℕ, List, ◌++◌, codes, decimal, Option, Some, None}
use Rattle.set_document.specs.declared.fault.AlgebraError.{AlgebraError}
use Rattle.set_document.specs.declared.fault.AlgebraError.TheVariants as fault
use Rattle.set_document.specs.Faults.{first_fault}
use Rattle.set_document.specs.Answer.{answer}

abbrev pub at_line : ℕ → List ℕ → List ℕ
at_line line what = codes "line " ++ (decimal line ++ what)

abbrev pub at_word : ℕ → ℕ → List ℕ → List ℕ
at_word line word what = at_line line (codes ", word " ++ (decimal word ++ what))

-- a fault's place and its name; want of memory has no place
abbrev pub fault_text : AlgebraError → List ℕ
fault_text (fault.BadLine line) = at_line line (codes ": bad line")
fault_text (fault.BadWord line word) = at_word line word (codes ": bad word")
fault_text (fault.Reversed line word) = at_word line word (codes ": reversed range")
fault_text (fault.UnknownName line word) = at_word line word (codes ": unknown name")
fault_text (fault.StackShort line word) = at_word line word (codes ": too few sets")
fault_text (fault.NotOne line) = at_line line (codes ": not one set")
fault_text fault.NoMemory = codes "no memory"

-- a fault's text and a line feed
unfoldable pub fault_line : AlgebraError → List ℕ
fault_line f = fault_text f ++ codes "\n"

-- what is written for a text with this first fault, or without one
abbrev pub text_by : List ℕ → Option AlgebraError → List ℕ
text_by text None = answer text
text_by text (Some f) = fault_line f

-- what is written for a text: its answer, or the line of its first fault
unfoldable pub text_of : List ℕ → List ℕ
text_of text = text_by text (first_fault text)
