use Rattle.std.proofs.lemmas.Grind.{common_steps}
use Rattle.std.proofs.lemmas.List.{map-append}
use Rattle.std.proofs.Common.{◌≡◌, ◌+◌, [], ◌∷◌, drop, map, arith, refl, ap, ◌∙◌, true}
use Rattle.std.specs.Prelude.{Some, is_some, ◌&&◌}
use Rattle.number_line.specs.Pieces.{value_in, values_of_all, in_all}
use Rattle.blaze_joins.specs.Filled.{IsOptionClone}
use Rattle.blaze_joins.specs.PlaceView.{at_place}
use Rattle.blaze_joins.specs.SideView.{holders_in}
use Rattle.blaze_joins.proofs.CallLemmas.{and_left, and_right}
use Rattle.blaze_joins.proofs.SideLemmas.{value_there, clone_there}
use Rattle.number_line.proofs.ZippedLemmas.{zipped_start, zipped_step, zipped_end}
use Rattle.blaze_joins.proofs.many.present_values.Goals as goal
use Rattle.blaze_joins.proofs.many.present_values.Goals.{in-Some+in_ok-push, in_default}

pub loop-i-init : goal.loop-i-init
loop-i-init g c = rw c.in_ok-values.ensures.items record {
  made = zipped_start (IsOptionClone g.V.Clone.is_clone) (values_of_all (holders_in c.args.maps.now c.args.sides.now));
  present = c.requires.present;
}

pub loop-i-preserved : goal.loop-i-preserved
loop-i-preserved g c =
    let i = c.loop-i.i in
    let maps : drop i c.args.maps.now ≡ c.index-maps-i.result ∷ drop (i + 1) c.args.maps.now = grind (arith, common_steps) in
    let sides : drop i c.args.sides.now ≡ c.index-sides-i.result ∷ drop (i + 1) c.args.sides.now = grind (arith, common_steps) in
    let holder = at_place c.index-maps-i.result c.index-sides-i.result.place in
    let rest = holders_in (drop (i + 1) c.args.maps.now) (drop (i + 1) c.args.sides.now) in
    let is : values_of_all (holders_in (drop i c.args.maps.now) (drop i c.args.sides.now)) ≡ value_in holder ∷ values_of_all rest = rw (maps, sides) refl in
    let all : (is_some holder && in_all rest) ≡ true = rw (maps, sides) at c.loop-i.invariant.present in
    record {
      made = elim c.match-branch-3.branch [
        | in-Some+in_ok-push w ↦ rw w.values-is
            (zipped_step (IsOptionClone g.V.Clone.is_clone) _ _ _ (map (λ v. Some v) c.loop-i.values.items) _ _ (Some w.in-Some.value)
            (ap (map (λ v. Some v)) w.in_ok-push.ensures.items ∙ map-append (λ v. Some v) c.loop-i.values.items (w.in-Some.value ∷ []))
            is (rw w.in-Some.is at c.in_ok-value.ensures) c.loop-i.invariant.made)
        | in_default w ↦ absurd (clone_there g.V.Clone.is_clone (value_in holder) (value_there holder ∙ and_left _ _ all) (rw w.in_default.is at c.in_ok-value.ensures))
      ];
      present = and_right _ _ all;
    }

pub returns : goal.returns
returns g c =
    let none : drop c.loop-i.i c.args.maps.now ≡ [] = grind (arith, common_steps) in
    let is : values_of_all (holders_in (drop c.loop-i.i c.args.maps.now) (drop c.loop-i.i c.args.sides.now)) ≡ [] = rw none refl in
    zipped_end (IsOptionClone g.V.Clone.is_clone) _ _ _ is c.loop-i.invariant.made
