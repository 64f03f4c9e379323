use Rattle.std.specs.Prelude.{◌-ℤ◌, unsigned_abs}
use Rattle.number_line.specs.Pieces.{holders_of_all_at, same_holders_of_all, in_any}
use Rattle.number_line.proofs.JoinWalk.{IsJoinedTo}
use Rattle.range_map.specs.Sweep.{EndBelow}
use Rattle.blaze_joins.specs.Joins.{CalledAtAny}
use Rattle.blaze_joins.specs.SideView.{AreSidesOf}
use Rattle.blaze_joins.proofs.many.full_join_all.Given as goal

abbrev pub invariant-loop-sides : goal.invariant-loop-sides
invariant-loop-sides g l = record {
  callable : goal.F-IsAlwaysCallable g l.f;
  is_value : g.T.Element.numbers.IsValue l.start;
  below : EndBelow (g.T.Element.numbers.number l.start) l.map;
  sides : AreSidesOf g.T.Element.numbers g.V.PartialEq.eq (g.T.Element.numbers.number l.start) l.maps l.sides.items;
  joined : IsJoinedTo (CalledAtAny g.V.Clone.is_clone g.F.FnMut) same_holders_of_all in_any (holders_of_all_at l.maps) g.X.PartialEq.eq
      g.T.Element.numbers.least g.T.Element.numbers.greatest (g.T.Element.numbers.number l.start) l.fn.f l.f l.map;
}

abbrev pub decreases-loop-sides : goal.decreases-loop-sides
decreases-loop-sides g l = unsigned_abs (g.T.Element.numbers.greatest -ℤ g.T.Element.numbers.number l.start)
