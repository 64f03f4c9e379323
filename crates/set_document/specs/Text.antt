-- What a document is made of: the kinds of its words, and the forms of its lines. A text is the list of its bytes; its lines, and the words
-- of what stands behind the colon and space of a named line, are those of any text.
use Rattle.std.specs.Prelude.{ℕ, ◌-◌, slice_index, ℤ, Bool, not, ◌&&◌, ◌==◌, nat_le, nat_lt, if◌then◌else◌, List, [], ◌∷◌, length, drop, take, bytes_eq, codes, Option, Some, None}
use Rattle.std.specs.List.{list_all, position_or_len, prefix_len}
use Rattle.text_lines.specs.Lines.{ends_with_feed}
use Rattle.text_lines.specs.Decimals.{number_between}
use Rattle.set_document.specs.Numbers.{least, greatest}

-- the number that a piece writes in decimal, where it is one of 64 bits
abbrev pub number : List ℕ → Option ℤ
number piece = number_between least greatest piece

-- ---- words

-- what a word stands for: a number, the numbers from one to another, no number, every number, the set of a name, or an operator
pub data Kind : Type 0 where
  Number : ℤ → Kind
  Span : ℤ → ℤ → Kind
  Empty : Kind
  Full : Kind
  Name : List ℕ → Kind
  Not : Kind
  Or : Kind
  And : Kind
  Minus : Kind
  Xor : Kind

abbrev pub is_letter : ℕ → Bool
is_letter c = nat_le 97 c && nat_le c 122

-- one letter of `a` to `z` or more, and nothing else
abbrev pub is_letters : List ℕ → Bool
is_letters piece = nat_lt 0 (length piece) && list_all is_letter piece

abbrev pub is_name : List ℕ → Bool
is_name piece = is_letters piece && not (bytes_eq piece (codes "empty")) && not (bytes_eq piece (codes "full"))

abbrev pub is_dot : ℕ → Bool
is_dot c = c == 46

-- what stands before the first `.`, and from there on
abbrev pub before_dot : List ℕ → List ℕ
before_dot piece = take (position_or_len is_dot piece) piece

abbrev pub from_dot : List ℕ → List ℕ
from_dot piece = drop (position_or_len is_dot piece) piece

abbrev pub span_from : Option ℤ → Option ℤ → Option Kind
span_from None e = None
span_from (Some s) None = None
span_from (Some s) (Some e) = Some (Span s e)

-- two numbers with `..=` between them
abbrev pub span : List ℕ → Option Kind
span piece =
    if bytes_eq (take 3 (from_dot piece)) (codes "..=")
    then span_from (number (before_dot piece)) (number (drop 3 (from_dot piece)))
    else None

abbrev pub number_or_span : List ℕ → Option Kind
number_or_span piece = elim (number piece) [ Some n ↦ Some (Number n) | None ↦ span piece ]

-- the kind of a piece, or none where it is no word
abbrev pub kind : List ℕ → Option Kind
kind piece =
    if bytes_eq piece (codes "empty") then Some Empty
    else if bytes_eq piece (codes "full") then Some Full
    else if is_letters piece then Some (Name piece)
    else if bytes_eq piece (codes "!") then Some Not
    else if bytes_eq piece (codes "|") then Some Or
    else if bytes_eq piece (codes "&") then Some And
    else if bytes_eq piece (codes "-") then Some Minus
    else if bytes_eq piece (codes "^") then Some Xor
    else number_or_span piece

-- ---- lines

-- a comment, a name with what stands behind its colon and space (none where the line ends at the colon), or neither
pub data Form : Type 0 where
  Comment : Form
  Named : List ℕ → Option (List ℕ) → Form
  Bad : Form

-- the form, by what stands behind the name
abbrev pub form_after : List ℕ → List ℕ → Form
form_after name [] = Bad
form_after name (c ∷ []) = if c == 58 then Named name None else Bad
form_after name (c ∷ d ∷ rest) = if (c == 58) && (d == 32) then Named name (Some rest) else Bad

abbrev pub form_of_named : List ℕ → Form
form_of_named body =
    if is_name (take (prefix_len is_letter body) body)
    then form_after (take (prefix_len is_letter body) body) (drop (prefix_len is_letter body) body)
    else Bad

-- the form of a line without its line feed: a comment, or a name, a colon, and nothing or a space and words
abbrev pub form_of_body : List ℕ → Form
form_of_body body = if slice_index body 0 == 35 then Comment else form_of_named body

abbrev pub form : List ℕ → Form
form line = if ends_with_feed line then form_of_body (take (length line - 1) line) else Bad
