use Rattle.std.proofs.Common.{◌≡◌, ◌+◌, ◌∷◌, arith, drop}
use Rattle.std.proofs.lemmas.Grind.{common_steps}
use Rattle.range_map.proofs.DividedLemmas.{map_goes_on}
use Rattle.range_map.proofs.map.from_iter.is_map.Goals as goal

pub loop-pair-preserved : goal.loop-pair-preserved
loop-pair-preserved g c =
    let i = c.loop-pair.pair-index in
    let rest = c.in-Some.rest.now in
    let next : drop i rest ≡ c.pair-item.result ∷ drop (i + 1) rest = grind (arith, common_steps) in
    map_goes_on g.T.Element.numbers g.V.PartialEq.eq _ c.loop-pair.last.now _ c.pair-item.result _ next c.start-in-loop-pair.ensures.range c.end-end.ensures.high
    (rw (c.end-end.ensures.value, c.start-in-loop-pair.ensures.value) at c.if-not-is_below.ensures) c.if-continues.ensures.cases c.loop-pair.invariant
