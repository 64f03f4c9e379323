use Rattle.std.proofs.Common.{length, ap, arith, ◌∙◌}
use Rattle.number_line.specs.Members.{members}
use Rattle.range_map.specs.Set.{all_in_numbers}
use Rattle.range_map.proofs.ElementLemmas.{without_first}
use Rattle.range_map.proofs.set.elements.EltIterIterator.next.Goals as goal

pub returns-clause-steps : goal.returns-clause-steps
returns-clause-steps g c =
    let numbers = g.T.Element.numbers in
    let left = c.without_first-self.ensures in
    rw c.start.ensures.value (ap (λ l. members (all_in_numbers numbers l)) c.in-Some.ensures.some
    ∙ without_first numbers c.in-Some.next.0 c.without_first-self.result c.in-Some.next.1.now left.more left.others left.alone)

pub returns-clause-goes : goal.returns-clause-goes
returns-clause-goes g c =
    let fewer = ap length (returns-clause-steps g c) in
    record { on = λ _. (tt, tt, omega (arith, fewer)); keeps = tt; rests = λ _. tt }
