use Rattle.std.proofs.Common.{rules, ◌≡◌, ◌∙◌, ap, length}
use Rattle.std.specs.Vec.Iter.{into_iter_len}
use Rattle.element_core.specs.Numberings.{unsigned}
use Rattle.range_map.specs.Valued.{pairs_in_numbers}
use Rattle.range_map.proofs.TakenLemmas.{taken_whole}
use Rattle.rule_table.specs.Rules.{rules_in_numbers}
use Rattle.rule_table.proofs.WinnerLemmas.{are_winners}
use Rattle.rule_table.proofs.table.winners_of.Goals as goal

pub returns : goal.returns
returns c =
    let ran = c.in_ok-winners.ensures.values in
    let items = c.in_ok-places.places.items in
    let len : into_iter_len ran.0 ≡ length items = ran.2.1 ∙ search rules in
    let given = taken_whole ran.0 items ran.1 ran.2.0 len ran.3 in
    are_winners (rules_in_numbers c.args.rules.now) (pairs_in_numbers (unsigned 32) ran.1) c.in_ok-winners.winners (ap (pairs_in_numbers (unsigned 32)) given ∙ c.in_ok-places.ensures)
    c.in_ok-winners.ensures.canonical ran.4
