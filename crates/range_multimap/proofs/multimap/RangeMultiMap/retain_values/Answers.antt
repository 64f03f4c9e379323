use Rattle.range_map.specs.Changing.{CalledAtValue}
use Rattle.range_map.specs.Valued.{pair_in_numbers}
use Rattle.range_map.proofs.ChangeLemmas.{filtered_ranges, filtered_seen}
use Rattle.range_multimap.proofs.multimap.RangeMultiMap.retain_values.Goals as goal

pub invariant_of-self : goal.invariant_of-self
invariant_of-self g c = filtered_ranges g.T.Element.numbers (CalledAtValue g.F.FnMut) _ _ _ c.retain_by_value.ensures c.self.invariant

pub returns : goal.returns
returns g c =
    rw (← c.self.view_is)
    (filtered_seen (pair_in_numbers g.T.Element.numbers) (CalledAtValue g.F.FnMut) (CalledAtValue g.F.FnMut) (λ s x b t h. h) _ _ _ c.retain_by_value.ensures)
