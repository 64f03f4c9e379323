use Rattle.std.proofs.Common.{◌≡◌, drop}
use Rattle.std.specs.Int.{int_min}
use Rattle.blaze_joins.specs.SideView.{least_of, ends_of}
use Rattle.blaze_joins.proofs.many.first_end.Given as goal

abbrev pub invariant-loop-side : goal.invariant-loop-side
invariant-loop-side g l = record {
  is_value : g.T.Element.numbers.IsValue l.end;
  least : int_min (g.T.Element.numbers.number l.end) (least_of g.T.Element.numbers.greatest (ends_of g.T.Element.numbers (drop l.side-index l.sides)))
      ≡ least_of g.T.Element.numbers.greatest (ends_of g.T.Element.numbers l.sides);
}
