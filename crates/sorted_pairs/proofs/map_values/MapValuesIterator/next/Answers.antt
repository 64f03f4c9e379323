use Rattle.std.proofs.Common.{rules}
use Rattle.sorted_pairs.specs.ValueLaws.{called-first, called-on}
use Rattle.sorted_pairs.proofs.map_values.MapValuesIterator.next.Goals as goal

pub f-requires : goal.f-requires
f-requires g c = search (rules, called-first g.I.Iterator.next_gives g.F.FnMut _ _ (c.in_ok-key.key, c.in_ok-key.value) _ c.requires.1 c.in_ok-key.ensures.steps)

pub returns-clause-goes : goal.returns-clause-goes
returns-clause-goes g c =
    let went = c.in_ok-key.ensures.goes in
    let callable = called-on g.I.Iterator.next_gives g.F.FnMut _ _ (c.in_ok-key.key, c.in_ok-key.value) _ _ _ c.requires.1 c.in_ok-key.ensures.steps c.f.ensures in
    record { on = λ h. let n = went.on h in ((n.0, callable), n.1, n.2); keeps = (went.keeps, callable); rests = λ _. tt }
