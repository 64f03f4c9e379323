-- The rules of a text, and its answer.
use Rattle.std.specs.Prelude.{ℕ, ◌+◌, ℤ, pos, List, [], ◌∷◌, ◌++◌, map}
use Rattle.text_lines.specs.Lines.{lines}
use Rattle.rule_table.specs.declared.rule.Decision.{Decision}
use Rattle.rule_table.specs.Text.{Form, Comment, Ruling, Bad, form}
use Rattle.rule_table.specs.Answer.{table_text}

-- the rule of a line by its form, if it is one, with the line's number
abbrev pub form_rules : ℕ → Form → List (ℕ × ((ℤ × ℤ) × Decision))
form_rules line Comment = []
form_rules line (Ruling decision range) = (line, ((pos range.0, pos range.1), decision)) ∷ []
form_rules line Bad = []

-- the rules of the lines, which count from `line` on
abbrev pub rules_from : ℕ → List (List ℕ) → List (ℕ × ((ℤ × ℤ) × Decision))
rules_from line [] = []
rules_from line (l ∷ ls) = form_rules line (form l) ++ rules_from (line + 1) ls

-- the rules of a text in order: the number of the line, the first and the last address, and the decision
abbrev pub rules : List ℕ → List (ℕ × ((ℤ × ℤ) × Decision))
rules text = rules_from 1 (lines text)

abbrev pub line_numbers : List (ℕ × ((ℤ × ℤ) × Decision)) → List ℕ
line_numbers numbered = map (λ rule. rule.0) numbered

abbrev pub without_numbers : List (ℕ × ((ℤ × ℤ) × Decision)) → List ((ℤ × ℤ) × Decision)
without_numbers numbered = map (λ rule. rule.1) numbered

-- what is written for a text without a fault
unfoldable pub rules_answer : List ℕ → List ℕ
rules_answer text = table_text (without_numbers (rules text)) (line_numbers (rules text))
