use Rattle.std.proofs.lemmas.Grind.{common_steps}
use Rattle.std.proofs.Common.{◌≡◌, ◌+◌, [], ◌∷◌, drop, arith, refl}
use Rattle.number_line.specs.Pieces.{value_in, values_of_all}
use Rattle.blaze_joins.specs.Filled.{IsOptionClone}
use Rattle.blaze_joins.specs.PlaceView.{at_place}
use Rattle.blaze_joins.specs.SideView.{holders_in}
use Rattle.number_line.proofs.ZippedLemmas.{zipped_start, zipped_step, zipped_end}
use Rattle.blaze_joins.proofs.many.values_of_each.Goals as goal

pub loop-i-init : goal.loop-i-init
loop-i-init g c = rw c.in_ok-values.ensures.items (zipped_start (IsOptionClone g.V.Clone.is_clone) (values_of_all (holders_in c.args.maps.now c.args.sides.now)))

pub loop-i-preserved : goal.loop-i-preserved
loop-i-preserved g c =
    let i = c.loop-i.i in
    let maps : drop i c.args.maps.now ≡ c.index-maps-i.result ∷ drop (i + 1) c.args.maps.now = grind (arith, common_steps) in
    let sides : drop i c.args.sides.now ≡ c.index-sides-i.result ∷ drop (i + 1) c.args.sides.now = grind (arith, common_steps) in
    let is : values_of_all (holders_in (drop i c.args.maps.now) (drop i c.args.sides.now))
    ≡ value_in (at_place c.index-maps-i.result c.index-sides-i.result.place) ∷ values_of_all (holders_in (drop (i + 1) c.args.maps.now) (drop (i + 1) c.args.sides.now)) = rw (maps, sides) refl in
    zipped_step (IsOptionClone g.V.Clone.is_clone) _ _ _ _ _ _ c.in_ok-clone_at_place.field-0 c.in_ok-push.ensures.items is c.in_ok-clone_at_place.ensures c.loop-i.invariant

pub returns : goal.returns
returns g c =
    let none : drop c.loop-i.i c.args.maps.now ≡ [] = grind (arith, common_steps) in
    let is : values_of_all (holders_in (drop c.loop-i.i c.args.maps.now) (drop c.loop-i.i c.args.sides.now)) ≡ [] = rw none refl in
    zipped_end (IsOptionClone g.V.Clone.is_clone) _ _ _ is c.loop-i.invariant
