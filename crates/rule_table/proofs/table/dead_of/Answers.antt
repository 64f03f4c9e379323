use Rattle.std.proofs.Common.{◌≡◌, ◌∙◌, ap, sym, length, drop, List, ℕ}
use Rattle.std.specs.Prelude.{replicate, true}
use Rattle.std.proofs.lemmas.List.{take_at, length-replicate, length-map}
use Rattle.rule_table.specs.Rules.{rules_in_numbers}
use Rattle.rule_table.specs.Winners.{marks_left}
use Rattle.rule_table.specs.declared.rule.Rule.{Rule}
use Rattle.rule_table.proofs.WinnerLemmas.{winners_below}
use Rattle.rule_table.proofs.MarkLemmas.{dead_marks, length_marked}
use Rattle.rule_table.proofs.table.dead_of.Goals as goal

count : (rules : List Rule) → length (rules_in_numbers rules) ≡ length rules
count list = length-map list _

pub unmark-requires : goal.unmark-requires
unmark-requires c =
    let rules = c.args.rules.now in
    let n : length c.as_mut_slice.result.now ≡ length (rules_in_numbers rules) =
    ap length (c.as_mut_slice.ensures.value ∙ c.in_ok-dead.ensures) ∙ (length-replicate (length rules) true ∙ sym (count rules)) in
    rw n (winners_below (rules_in_numbers rules) c.args.winners.now c.requires)

pub returns : goal.returns
returns c =
    let rules = c.args.rules.now in
    let start : c.as_mut_slice.result.now ≡ replicate (length (rules_in_numbers rules)) true =
    c.as_mut_slice.ensures.value ∙ (c.in_ok-dead.ensures ∙ ap (λ (n : ℕ). replicate n true) (sym (count rules))) in
    let made : c.unmark.new.dead ≡ marks_left (replicate (length (rules_in_numbers rules)) true) c.args.winners.now = c.unmark.ensures ∙ ap (λ dead. marks_left dead c.args.winners.now) start in
    let len : length c.unmark.new.dead ≡ c.in_ok-dead.dead.len = ap length c.unmark.ensures ∙ (length_marked c.as_mut_slice.result.now c.args.winners.now ∙ c.as_mut_slice.ensures.len) in
    rw (take_at c.unmark.new.dead (drop (length c.unmark.new.dead) c.in_ok-dead.dead.items) c.in_ok-dead.dead.len len, made) (dead_marks (rules_in_numbers rules) c.args.winners.now c.requires)
