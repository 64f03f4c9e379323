use Rattle.number_line.proofs.CloneLemmas.{clones_same}
use Rattle.range_multimap.proofs.multimap.RangeMultiMap.try_clone.Goals as goal

pub returns-clause-equal : goal.returns-clause-equal
returns-clause-equal g c =
    rw (← c.self.view_is, ← c.as_slice.ensures.value) (clones_same g.V.Clone.is_clone g.V.PartialEq.eq c.requires _ _ c.in_ok-pairs.ensures.clones)
