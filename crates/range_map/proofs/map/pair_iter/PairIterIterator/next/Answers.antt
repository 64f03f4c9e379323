use Rattle.std.proofs.Common.{length, ap, arith, ◌∙◌}
use Rattle.std.specs.Prelude.{not}
use Rattle.number_line.specs.KeysValues.{keys_values}
use Rattle.range_map.specs.Valued.{pairs_in_numbers}
use Rattle.range_map.proofs.KeyLemmas.{first_begun, first_key, first_key_alone}
use Rattle.range_map.proofs.map.pair_iter.PairIterIterator.next.Goals as goal
use Rattle.range_map.proofs.map.pair_iter.PairIterIterator.next.Goals.{then-is_none, else-is_none}

pub returns-clause-steps : goal.returns-clause-steps
returns-clause-steps g c =
    let numbers = g.T.Element.numbers in
    let all = c.in-Some.ensures.cases.0 in
    let left = c.without_first-self.ensures in
    rw c.start.ensures.value
    (ap (λ l. keys_values (pairs_in_numbers numbers l)) (first_begun numbers _ _ c.in-Some.pair.now c.in-Some.others.now c.unwrap_or-range.result all c.unwrap_or-range.ensures)
    ∙ elim c.if-is_none.branch [
      | then-is_none w ↦
          rw w.self-is (first_key_alone numbers c.unwrap_or-range.result c.in-Some.pair.now c.in-Some.others.now _ left.alone
          (c.is_none.ensures ∙ ap not w.if-is_none.true))
      | else-is_none w ↦
          rw w.self-is (first_key numbers c.unwrap_or-range.result c.in-Some.pair.now c.in-Some.others.now _ left.more left.others
          (c.is_none.ensures ∙ ap not w.if-is_none.false) _ all)
    ])

pub returns-clause-goes : goal.returns-clause-goes
returns-clause-goes g c =
    let fewer = ap length (returns-clause-steps g c) in
    record { on = λ _. (tt, tt, omega (arith, fewer)); keeps = tt; rests = λ _. tt }
