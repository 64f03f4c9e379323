use Rattle.std.proofs.Common.{drop}
use Rattle.blaze_joins.specs.SideView.{IsSideOf}
use Rattle.number_line.proofs.ZippedLemmas.{IsZipped}
use Rattle.blaze_joins.proofs.many.first_sides.Given as goal

abbrev pub invariant-loop-map : goal.invariant-loop-map
invariant-loop-map g l = IsZipped (IsSideOf g.T.Element.numbers g.V.PartialEq.eq g.T.Element.numbers.least) (drop l.map-index l.maps) l.maps l.sides.items
