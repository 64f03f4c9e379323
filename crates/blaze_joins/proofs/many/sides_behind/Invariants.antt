use Rattle.std.proofs.Common.{drop}
use Rattle.std.specs.Prelude.{ℤ, ◌≤ℤ◌}
use Rattle.blaze_joins.specs.SideView.{IsSideOf, AreSidesOf, least_of, ends_of}
use Rattle.number_line.proofs.ZippedLemmas.{IsZipped}
use Rattle.blaze_joins.proofs.many.sides_behind.Given as goal

abbrev pub invariant-loop-i : goal.invariant-loop-i
invariant-loop-i g l = record {
  made : IsZipped (IsSideOf g.T.Element.numbers g.V.PartialEq.eq (g.T.Element.numbers.number l.next)) (drop l.i l.maps) l.maps l.new.items;
  sides : (n : ℤ) × (n ≤ℤ g.T.Element.numbers.number l.end) × AreSidesOf g.T.Element.numbers g.V.PartialEq.eq n (drop l.i l.maps) (drop l.i l.sides);
  ends : g.T.Element.numbers.number l.end ≤ℤ least_of g.T.Element.numbers.greatest (ends_of g.T.Element.numbers (drop l.i l.sides));
}
