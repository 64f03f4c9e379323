use Rattle.std.proofs.Common.{rules, arith, ◌∷◌, [], ◌++◌, None, Some}
use Rattle.std.specs.Fn.{Called}
use Rattle.sorted_pairs.specs.ValueLaws.{called-first, called-on, passes-more}
use Rattle.sorted_pairs.proofs.filter_map_values.FilterMapValuesIterator.next.Goals as goal

pub f-requires : goal.f-requires
f-requires g c = search (rules, called-first g.I.Iterator.next_gives g.F.FnMut _ _ (c.in-Some.key, c.in-Some.value) _ c.loop-key.invariant.3 c.in-Some.ensures.steps)

pub returns-in-Some-f-clause-goes : goal.returns-in-Some-f-clause-goes
returns-in-Some-f-clause-goes g c =
    let i = c.loop-key.invariant in
    let on = c.in-Some.ensures.goes.on i.1 in
    let call : Called g.F.FnMut c.loop-key.self.f (c.in-Some.value, tt) (Some c.in-Some-f.answer) c.f.new.self = c.in-Some-f.ensures in
    let callable = called-on g.I.Iterator.next_gives g.F.FnMut _ _ (c.in-Some.key, c.in-Some.value) _ _ _ i.3 c.in-Some.ensures.steps call in
    record { on = λ h. ((on.0, on.1, callable), on.1, omega (arith, i.2, on.2)); keeps = (on.0, on.1, callable); rests = λ _. tt }

pub loop-key-preserved : goal.loop-key-preserved
loop-key-preserved g c =
    let i = c.loop-key.invariant in
    let on = c.in-Some.ensures.goes.on i.1 in
    let call : Called g.F.FnMut c.loop-key.self.f (c.in-Some.value, tt) None c.f.new.self = c.in_default-f.ensures in
    let callable = called-on g.I.Iterator.next_gives g.F.FnMut _ _ (c.in-Some.key, c.in-Some.value) _ _ _ i.3 c.in-Some.ensures.steps call in
    let passed = passes-more g.F.FnMut g.I.Iterator.next_gives i.4.0 _ _ _ _ _ _ (c.in-Some.key, c.in-Some.value) i.4.1 i.4.2 c.in-Some.ensures.steps call in
    (on.0, on.1, omega (arith, i.2, on.2), callable, (i.4.0 ++ (c.in-Some.key, c.in-Some.value) ∷ [], passed.0, passed.1))
