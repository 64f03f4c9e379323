use Rattle.number_line.proofs.CloneLemmas.{clones_same}
use Rattle.number_line.proofs.SameLemmas.{canonical_same}
use Rattle.blaze_joins.proofs.map.RangeMapBlaze.try_clone.Goals as goal

pub from_canonical-requires : goal.from_canonical-requires
from_canonical-requires g c =
    let same = clones_same g.V.Clone.is_clone g.V.PartialEq.eq c.requires _ _ (rw c.as_slice.ensures.list at c.in_ok-pairs.ensures.clones) in
    record {
      are_ranges = c.in_ok-pairs.ensures.ranges;
      canonical = canonical_same g.V.PartialEq.eq g.met.V.Eq.laws _ _ _ _ same c.as_slice.ensures.canonical;
    }

pub returns-clause-clones : goal.returns-clause-clones
returns-clause-clones g c = rw (← c.self.view_is, c.from_canonical.ensures) (rw c.as_slice.ensures.list at c.in_ok-pairs.ensures.clones)

pub returns-clause-equal : goal.returns-clause-equal
returns-clause-equal g c = clones_same g.V.Clone.is_clone g.V.PartialEq.eq c.requires _ _ (returns-clause-clones g c)

pub returns-clause-canonical : goal.returns-clause-canonical
returns-clause-canonical g c =
    let same = clones_same g.V.Clone.is_clone g.V.PartialEq.eq c.requires _ _ (rw c.as_slice.ensures.list at c.in_ok-pairs.ensures.clones) in
    rw c.from_canonical.ensures (canonical_same g.V.PartialEq.eq g.met.V.Eq.laws _ _ _ _ same c.as_slice.ensures.canonical)
