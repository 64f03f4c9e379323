-- A rule behind the others decides wherever it holds.
use Rattle.std.proofs.Common.{◌≡◌, List, [], ◌∷◌, ◌++◌, refl, ap, ◌∙◌}
use Rattle.std.specs.Prelude.{ℤ, true, Some}
use Rattle.std.proofs.lemmas.List.{reverse-append}
use Rattle.number_line.specs.Ranges.{lies_in}
use Rattle.number_line.specs.Valued.{value_at}
use Rattle.element_core.specs.Numberings.{unsigned}
use Rattle.range_map.specs.Range.{in_numbers}
use Rattle.rule_table.specs.Rules.{rules_in_numbers, decision_at}
use Rattle.rule_table.specs.declared.rule.Rule.{Rule}
use Rattle.rule_table.specs.declared.rule.Decision.{Decision}
use Rattle.rule_table.proofs.DecisionLemmas.{decision_is_last}

last_decides : {D : Type 0} (rules : List ((ℤ × ℤ) × D)) (p : (ℤ × ℤ) × D) (x : ℤ) → lies_in p.0 x ≡ true
    → decision_at (rules ++ p ∷ []) x ≡ Some p.1
last_decides rules p x h =
    decision_is_last (rules ++ p ∷ []) x ∙ (ap (λ list. value_at list x) (reverse-append rules (p ∷ [])) ∙ (rw h refl))

in_numbers_and_last : (rules : List Rule) (last : Rule)
    → rules_in_numbers (rules ++ last ∷ []) ≡ rules_in_numbers rules ++ (in_numbers (unsigned 32) last.addresses, last.decision) ∷ []
in_numbers_and_last [] last = refl
in_numbers_and_last (rule ∷ rules) last =
    ap (λ rest. (in_numbers (unsigned 32) rule.addresses, rule.decision) ∷ rest) (in_numbers_and_last rules last)

pub last_rule_decides : (rules : List Rule) (last : Rule) (table : List ((ℤ × ℤ) × Decision)) (x : ℤ) → table ≡ rules_in_numbers (rules ++ last ∷ [])
    → lies_in (in_numbers (unsigned 32) last.addresses) x ≡ true → decision_at table x ≡ Some last.decision
last_rule_decides rules last table x e h =
    rw (e, in_numbers_and_last rules last) (last_decides (rules_in_numbers rules) (in_numbers (unsigned 32) last.addresses, last.decision) x h)
