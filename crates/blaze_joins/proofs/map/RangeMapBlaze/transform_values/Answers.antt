use Rattle.std.proofs.lemmas.Grind.{common_steps}
use Rattle.std.proofs.Common.{rules, of_calls, ◌≡◌, ◌+◌, [], ◌∷◌, drop, ap, refl, arith, length-drop, ◌∙◌}
use Rattle.range_map.specs.Valued.{pairs_in_numbers, pair_in_numbers}
use Rattle.blaze_joins.specs.Joins.{CalledAtValue}
use Rattle.blaze_joins.proofs.CallLemmas.{come_ends, come_next, come_all, same_keys}
use Rattle.blaze_joins.proofs.map.RangeMapBlaze.transform_values.Goals as goal

pub push-requires-clause-end_below : goal.push-requires-clause-end_below
push-requires-clause-end_below g c =
    let numbers = g.T.Element.numbers in
    let i = c.loop-pair.pair-index in
    let items = c.as_slice-pairs.result.now in
    let next : drop i items ≡ c.pair-item.result ∷ drop (i + 1) items = grind (arith, common_steps) in
    let is = ap (pairs_in_numbers numbers) next in
    come_ends (CalledAtValue g.F.FnMut) g.X.PartialEq.eq g.V.PartialEq.eq numbers.least numbers.greatest _ _ _ _ _ (pair_in_numbers numbers c.pair-item.result) _ is c.loop-pair.invariant.come

pub loop-pair-preserved : goal.loop-pair-preserved
loop-pair-preserved g c =
    let numbers = g.T.Element.numbers in
    let i = c.loop-pair.pair-index in
    let items = c.as_slice-pairs.result.now in
    let next : drop i items ≡ c.pair-item.result ∷ drop (i + 1) items = grind (arith, common_steps) in
    let is = ap (pairs_in_numbers numbers) next in
    record {
      callable = search (rules, of_calls);
      room = omega (arith, length-drop i items, length-drop (i + 1) items, c.push.ensures.room, c.loop-pair.invariant.room, c.loop-pair-test.true);
      come = come_next (CalledAtValue g.F.FnMut) g.X.PartialEq.eq g.V.PartialEq.eq numbers.least numbers.greatest _ c.loop-pair.f c.f-answer.new.self _ _ _ (pair_in_numbers numbers c.pair-item.result) _ _ c.f-answer.result is
          c.loop-pair.invariant.come (record { given = _; shows = refl; called = c.f-answer.ensures })
          c.push.ensures.put.is c.push.ensures.put.labelled.behind;
    }

pub returns-clause-joined : goal.returns-clause-joined
returns-clause-joined g c =
    let numbers = g.T.Element.numbers in
    let items = c.as_slice-pairs.result.now in
    let left : drop c.loop-pair.pair-index items ≡ [] = grind (arith, common_steps) in
    let none = ap (pairs_in_numbers numbers) left in
    rw (c.into_map.ensures.map, ← (c.as_slice-pairs.ensures.list ∙ c.self.view_is))
    (come_all (CalledAtValue g.F.FnMut) g.X.PartialEq.eq g.V.PartialEq.eq numbers.least numbers.greatest _ _ _ _ _ none c.loop-pair.invariant.come)

pub returns-clause-keys : goal.returns-clause-keys
returns-clause-keys g c =
    let numbers = g.T.Element.numbers in
    let items = c.as_slice-pairs.result.now in
    let left : drop c.loop-pair.pair-index items ≡ [] = grind (arith, common_steps) in
    let none = ap (pairs_in_numbers numbers) left in
    let come = c.loop-pair.invariant.come in
    rw (c.into_map.ensures.map, ← (c.as_slice-pairs.ensures.list ∙ c.self.view_is))
    (same_keys (CalledAtValue g.F.FnMut) g.X.PartialEq.eq g.met.X.Eq.laws g.V.PartialEq.eq numbers.least numbers.greatest _ _ _ come.whole
    (come_all (CalledAtValue g.F.FnMut) g.X.PartialEq.eq g.V.PartialEq.eq numbers.least numbers.greatest _ _ _ _ _ none come))
