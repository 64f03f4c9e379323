use Rattle.std.proofs.Common.{◌≡◌, ◌∷◌}
use Rattle.std.specs.Prelude.{true}
use Rattle.number_line.specs.Ranges.{IsCanonical}
use Rattle.range_map.specs.Range.{in_numbers}
use Rattle.range_map.specs.Set.{all_in_numbers}
use Rattle.cut_points.specs.Cuts.{cuts_left}
use Rattle.cut_points.proofs.LeftLemmas.{left_ascends, none_next}
use Rattle.cut_points.proofs.cuts_left.CutsLeft.peek.Goals as goal

pub returns-then-self-clause-none : goal.returns-then-self-clause-none
returns-then-self-clause-none g c =
    let n = g.T.Element.numbers in
    let range = in_numbers n c.in_ok-range.range.now in
    let rest = all_in_numbers n c.in_ok-range.field-0-1.now in
    let canonical : IsCanonical n.least n.greatest (range ∷ rest) = rw c.in_ok-range.ensures.cases.0 at c.self.invariant in
    let shown : cuts_left n.greatest true (range ∷ rest) ≡ c.args.self.now = rw (c.if-self.true, c.in_ok-range.ensures.cases.0) at c.self.view_is in
    rw (← shown) (none_next n.least n.greatest range rest canonical c.successor.result (rw c.end.ensures.value at c.successor.ensures.at_end))

pub returns-then-self-clause-ascending : goal.returns-then-self-clause-ascending
returns-then-self-clause-ascending g c =
    let n = g.T.Element.numbers in
    rw (← c.self.view_is) (left_ascends n.least n.greatest c.self.inside.begun (all_in_numbers n c.self.inside.ranges.now) c.self.invariant)

pub returns-else-self-clause-ascending : goal.returns-else-self-clause-ascending
returns-else-self-clause-ascending g c =
    let n = g.T.Element.numbers in
    rw (← c.self.view_is) (left_ascends n.least n.greatest c.self.inside.begun (all_in_numbers n c.self.inside.ranges.now) c.self.invariant)
