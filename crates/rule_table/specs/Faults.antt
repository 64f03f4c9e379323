-- The first fault of a text of rules: lines are judged in order.
use Rattle.std.specs.Prelude.{◌≡◌, ◌⊎◌, ℕ, nat_lt, if◌then◌else◌, List, Option, Some, None}
use Rattle.text_lines.specs.Lines.{lines}
use Rattle.text_lines.specs.Faults.{first_fault_from}
use Rattle.rule_table.specs.declared.fault.RuleError.{RuleError}
use Rattle.rule_table.specs.declared.fault.RuleError.TheVariants.{BadRule, ReversedRule, NoMemory}
use Rattle.rule_table.specs.Text.{Form, Comment, Ruling, Bad, form}

-- the fault of a line by its form, or none
abbrev pub form_fault : ℕ → Form → Option RuleError
form_fault line Comment = None
form_fault line (Ruling decision range) = if nat_lt range.1 range.0 then Some (ReversedRule line) else None
form_fault line Bad = Some (BadRule line)

-- the first fault of the lines, which count from `line` on; a line's fault doesn't hang on those before it
abbrev pub fault_from : ℕ → List (List ℕ) → Option RuleError
fault_from line lines = first_fault_from {K = Unit {0}} (λ _ i l. form_fault i (form l)) (λ known _. known) tt line lines

-- the first fault of a text, or none
unfoldable pub first_fault : List ℕ → Option RuleError
first_fault text = fault_from 1 (lines text)

-- want of memory, or the first fault
abbrev pub IsFirstFault : Option RuleError → RuleError → Type 0
IsFirstFault first e = (e ≡ NoMemory) ⊎ (first ≡ Some e)
