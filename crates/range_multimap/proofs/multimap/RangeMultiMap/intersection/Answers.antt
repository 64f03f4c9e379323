use Rattle.range_multimap.proofs.multimap.RangeMultiMap.intersection.Goals as goal

pub returns : goal.returns
returns g c = rw (← c.self.view_is, ← c.as_slice.ensures.value) c.in_ok-pairs.ensures.parts
