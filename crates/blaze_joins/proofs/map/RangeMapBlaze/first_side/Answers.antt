use Rattle.std.proofs.Common.{arith}
use Rattle.number_line.proofs.PieceLemmas.{left_first}
use Rattle.blaze_joins.proofs.map.RangeMapBlaze.first_side.Goals as goal

pub held_from-held-requires-clause-canonical : goal.held_from-held-requires-clause-canonical
held_from-held-requires-clause-canonical g c = rw c.as_slice.ensures.list c.as_slice.ensures.canonical

pub held_from-held-requires-clause-ends : goal.held_from-held-requires-clause-ends
held_from-held-requires-clause-ends g c =
    let numbers = g.T.Element.numbers in
    rw (c.as_slice.ensures.list, c.min_value.ensures.number) (left_first g.V.PartialEq.eq numbers.greatest numbers.least _ c.as_slice.ensures.canonical).ends

pub returns : goal.returns
returns g c =
    let numbers = g.T.Element.numbers in
    record {
      at = record { within = omega arith; left = left_first g.V.PartialEq.eq numbers.greatest numbers.least c.args.self.now (rw c.self.view_is at c.as_slice.ensures.canonical) };
      is_value = c.held_from-held.ensures.is_value;
      there = rw (c.as_slice.ensures.list, c.self.view_is) at c.held_from-held.ensures.there;
      held = rw (c.as_slice.ensures.list, c.min_value.ensures.number, c.self.view_is) at c.held_from-held.ensures.held;
    }
