-- The names, words and lines that the program reads, as what they stand for.
use Rattle.set_document.specs.declared.word.Name.{Name as Letters}
use Rattle.set_document.specs.declared.word.Word.{Word}
use Rattle.set_document.specs.declared.word.Word.TheVariants as word
use Rattle.set_document.specs.declared.line.LineForm.{LineForm}
use Rattle.set_document.specs.declared.line.LineForm.TheVariants as line
use Rattle.std.specs.Prelude.{ℕ, List, map, option_copied}
use Rattle.set_document.specs.Text.{Form, Comment, Named, Bad, Kind, Number, Span, Empty, Full, Name, Not, Or, And, Minus, Xor}

-- the bytes of a name
abbrev pub letters : Letters → List ℕ
letters name = name.bytes.now

-- the bytes of each of these names
abbrev pub letters_of : List Letters → List (List ℕ)
letters_of names = map letters names

-- the kind that a word stands for
abbrev pub kind_of_word : Word → Kind
kind_of_word (word.Number n) = Number n
kind_of_word (word.Span s e) = Span s e
kind_of_word word.Empty = Empty
kind_of_word word.Full = Full
kind_of_word (word.Named n) = Name (letters n)
kind_of_word word.Not = Not
kind_of_word word.Or = Or
kind_of_word word.And = And
kind_of_word word.Minus = Minus
kind_of_word word.Xor = Xor

-- the form that is read of a line
abbrev pub form_of_line : LineForm → Form
form_of_line line.Comment = Comment
form_of_line (line.Named n rest) = Named (letters n) (option_copied rest)
form_of_line line.Bad = Bad
