use Rattle.std.proofs.Common.{◌∙◌}
use Rattle.range_map.proofs.EqualityLemmas.{same_pairs_in_numbers}
use Rattle.range_map.proofs.map.compared.RangeMapPartialEq.eq.Goals as goal

pub returns : goal.returns
returns g c = c.eq.ensures ∙ rw (← c.self.view_is, ← c.other.view_is)
    (same_pairs_in_numbers g.T.Element.numbers g.T.Ord.cmp g.met.T.Element.numbered g.T.PartialEq.eq g.met.T.Ord.matches_eq g.V.PartialEq.eq
    c.self.inside.pairs.items c.other.inside.pairs.items c.self.invariant.are_ranges c.other.invariant.are_ranges)
