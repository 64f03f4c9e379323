use Rattle.std.proofs.lemmas.Grind.{common_steps}
use Rattle.std.proofs.Common.{◌≡◌, ◌+◌, [], ◌∷◌, drop, arith}
use Rattle.blaze_joins.specs.SideView.{IsSideOf}
use Rattle.number_line.proofs.ZippedLemmas.{zipped_start, zipped_step, zipped_end}
use Rattle.blaze_joins.proofs.many.first_sides.Goals as goal

pub loop-map-init : goal.loop-map-init
loop-map-init g c =
    let numbers = g.T.Element.numbers in
    rw c.in_ok-sides.ensures.items (zipped_start (IsSideOf numbers g.V.PartialEq.eq numbers.least) c.args.maps.now)

pub loop-map-preserved : goal.loop-map-preserved
loop-map-preserved g c =
    let numbers = g.T.Element.numbers in
    let i = c.loop-map.map-index in
    let maps : drop i c.args.maps.now ≡ c.map-item.result ∷ drop (i + 1) c.args.maps.now = grind (arith, common_steps) in
    zipped_step (IsSideOf numbers g.V.PartialEq.eq numbers.least) _ _ _ _ _ c.map-item.result c.first_side.result c.in_ok-push.ensures.items maps c.first_side.ensures c.loop-map.invariant

pub returns : goal.returns
returns g c =
    let numbers = g.T.Element.numbers in
    let none : drop c.loop-map.map-index c.args.maps.now ≡ [] = grind (arith, common_steps) in
    zipped_end (IsSideOf numbers g.V.PartialEq.eq numbers.least) _ _ _ none c.loop-map.invariant
