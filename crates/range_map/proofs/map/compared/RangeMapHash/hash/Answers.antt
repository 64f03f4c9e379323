use Rattle.std.proofs.Common.{ap, ◌∙◌}
use Rattle.std.specs.List.{fold}
use Rattle.range_map.proofs.EqualityLemmas.{pairs_fed_in_numbers}
use Rattle.range_map.proofs.map.compared.RangeMapHash.hash.Goals as goal

pub returns : goal.returns
returns g c = c.hash.ensures ∙ rw (← c.self.view_is)
    (ap (fold g.H.Hasher.write c.args.state.now)
    (pairs_fed_in_numbers g.T.Element.numbers g.T.Ord.cmp g.met.T.Element.numbered g.T.Hash.hash_input g.V.Hash.hash_input
    c.self.inside.pairs.items c.self.invariant.are_ranges))
