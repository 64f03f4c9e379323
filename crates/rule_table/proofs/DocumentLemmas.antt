-- What is written of the rules of a text is its answer.
use Rattle.std.proofs.Common.{◌≡◌, ℕ, List}
use Rattle.std.specs.Prelude.{ℤ}
use Rattle.rule_table.specs.declared.rule.Decision.{Decision}
use Rattle.rule_table.specs.Answer.{table_text}
use Rattle.rule_table.specs.Document.{rules, line_numbers, without_numbers, rules_answer}

pub answered : (text out : List ℕ) (found : List ((ℤ × ℤ) × Decision)) (lines : List ℕ) → found ≡ without_numbers (rules text)
    → lines ≡ line_numbers (rules text) → out ≡ table_text found lines → out ≡ rules_answer text
unfolding rules_answer
answered text out found lines f l e = rw (← f, ← l) e
