use Rattle.number_line.proofs.CloneLemmas.{clones_same}
use Rattle.number_line.proofs.SameLemmas.{canonical_same}
use Rattle.range_map.proofs.map.RangeMap.try_clone.Goals as goal

pub invariant_of-result : goal.invariant_of-result
invariant_of-result g c =
    let same = clones_same g.V.Clone.is_clone g.V.PartialEq.eq c.requires _ _ c.in_ok-pairs.ensures.clones in
    record {
      are_ranges = c.in_ok-pairs.ensures.ranges;
      canonical = canonical_same g.V.PartialEq.eq g.met.V.Eq.laws _ _ _ _ same (rw c.as_slice.ensures.value c.self.invariant.canonical);
    }

pub returns-clause-canonical : goal.returns-clause-canonical
returns-clause-canonical g c = (invariant_of-result g c).canonical

pub returns-clause-equal : goal.returns-clause-equal
returns-clause-equal g c =
    rw (← c.self.view_is, ← c.as_slice.ensures.value) (clones_same g.V.Clone.is_clone g.V.PartialEq.eq c.requires _ _ c.in_ok-pairs.ensures.clones)
