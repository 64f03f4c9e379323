use Rattle.std.proofs.Common.{◌≡◌, drop, map, true}
use Rattle.std.specs.Prelude.{Some}
use Rattle.number_line.specs.Pieces.{values_of_all, in_all}
use Rattle.blaze_joins.specs.Filled.{IsOptionClone}
use Rattle.blaze_joins.specs.SideView.{holders_in}
use Rattle.number_line.proofs.ZippedLemmas.{IsZipped}
use Rattle.blaze_joins.proofs.many.present_values.Given as goal

abbrev pub invariant-loop-i : goal.invariant-loop-i
invariant-loop-i g l = record {
  made : IsZipped (IsOptionClone g.V.Clone.is_clone) (values_of_all (holders_in (drop l.i l.maps) (drop l.i l.sides)))
      (values_of_all (holders_in l.maps l.sides)) (map (λ v. Some v) l.values.items);
  present : in_all (holders_in (drop l.i l.maps) (drop l.i l.sides)) ≡ true;
}
