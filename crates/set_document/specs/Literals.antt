-- The numbers and ranges among the words of a text, and the numbers at which one of them begins or has ended.
use Rattle.std.specs.Prelude.{ℕ, ℤ, List, [], ◌∷◌, flat_map, Option, Some, None}
use Rattle.cut_points.specs.Cuts.{cuts_alone}
use Rattle.set_document.specs.Numbers.{greatest}
use Rattle.text_lines.specs.Lines.{lines, words}
use Rattle.set_document.specs.Text.{form, kind, Form, Kind, Number, Span, Empty, Full, Name, Not, Or, And, Minus, Xor, Comment, Named, Bad}

-- the range of a word that is a number or a range
abbrev pub literal : Option Kind → List (ℤ × ℤ)
literal None = []
literal (Some (Number n)) = (n, n) ∷ []
literal (Some (Span s e)) = (s, e) ∷ []
literal (Some Empty) = []
literal (Some Full) = []
literal (Some (Name name)) = []
literal (Some Not) = []
literal (Some Or) = []
literal (Some And) = []
literal (Some Minus) = []
literal (Some Xor) = []

-- those among the words of a line, among a line, and among all lines
abbrev pub literals_of_words : List (List ℕ) → List (ℤ × ℤ)
literals_of_words pieces = flat_map (λ p. literal (kind p)) pieces

abbrev pub literals_of_form : Form → List (ℤ × ℤ)
literals_of_form Comment = []
literals_of_form (Named name rest) = literals_of_words (words rest)
literals_of_form Bad = []

abbrev pub literals_of : List (List ℕ) → List (ℤ × ℤ)
literals_of pieces = flat_map (λ l. literals_of_form (form l)) pieces

abbrev pub literals : List ℕ → List (ℤ × ℤ)
literals text = literals_of (lines text)

-- the cuts of each of them taken alone
abbrev pub literal_cuts : List ℕ → List ℤ
literal_cuts text = cuts_alone greatest (literals text)
