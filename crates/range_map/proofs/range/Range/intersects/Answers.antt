use Rattle.std.proofs.lemmas.Bool.Decides.{when_false}
use Rattle.range_map.specs.Range.{in_numbers}
use Rattle.range_map.proofs.CommonLemmas.{shared_number}
use Rattle.range_map.proofs.range.Range.intersects.Goals as goal

pub returns-then-not-is_below-clause-shared : goal.returns-then-not-is_below-clause-shared
returns-then-not-is_below-clause-shared g c =
    rw (← c.self.view_is, ← c.other.view_is)
    (shared_number c.is_below-then-not-is_below.result
    (in_numbers g.T.Element.numbers (c.self.inside.start, c.self.inside.end)) (in_numbers g.T.Element.numbers (c.other.inside.start, c.other.inside.end))
    c.self.invariant.ordered c.other.invariant.ordered (when_false _ _ c.if-not-is_below.true c.is_below.ensures) c.is_below-then-not-is_below.ensures)
