use Rattle.range_map.specs.Changing.{CalledAtValue}
use Rattle.range_map.specs.Valued.{pair_in_numbers}
use Rattle.range_map.proofs.ChangeLemmas.{filtered_map, filtered_seen}
use Rattle.range_map.proofs.map.RangeMap.retain_values.Goals as goal

pub invariant_of-self : goal.invariant_of-self
invariant_of-self g c = filtered_map g.T.Element.numbers (CalledAtValue g.F.FnMut) _ _ _ c.retain_by_value.ensures g.V.PartialEq.eq c.self.invariant

pub returns-clause-canonical : goal.returns-clause-canonical
returns-clause-canonical g c = (invariant_of-self g c).canonical

pub returns-clause-kept : goal.returns-clause-kept
returns-clause-kept g c =
    rw (← c.self.view_is)
    (filtered_seen (pair_in_numbers g.T.Element.numbers) (CalledAtValue g.F.FnMut) (CalledAtValue g.F.FnMut) (λ s x b t h. h) _ _ _ c.retain_by_value.ensures)
