use Rattle.blaze_joins.proofs.FillLemmas.{canonical_copy, filled_values, filled_stand}
use Rattle.blaze_joins.proofs.map.RangeMapBlaze.fill_gaps.Goals as goal

pub clones_and_gaps-requires : goal.clones_and_gaps-requires
clones_and_gaps-requires g c = rw c.as_slice.ensures.list c.as_slice.ensures.canonical

pub from_canonical-requires : goal.from_canonical-requires
from_canonical-requires g c =
    let numbers = g.T.Element.numbers in
    let clones = rw c.as_slice.ensures.list at c.in_ok-filled.ensures.clones in
    record {
      are_ranges = c.in_ok-filled.ensures.ranges;
      canonical = canonical_copy g.V.Clone.is_clone g.V.PartialEq.eq c.requires numbers.least numbers.greatest _ _ c.as_slice.ensures.canonical clones g.met.V.Eq.laws;
    }

pub returns-clause-canonical : goal.returns-clause-canonical
returns-clause-canonical g c =
    let numbers = g.T.Element.numbers in
    let clones = rw c.as_slice.ensures.list at c.in_ok-filled.ensures.clones in
    rw c.from_canonical.ensures
    (canonical_copy g.V.Clone.is_clone g.V.PartialEq.eq c.requires numbers.least numbers.greatest _ _ c.as_slice.ensures.canonical clones g.met.V.Eq.laws)

pub returns-clause-values : goal.returns-clause-values
returns-clause-values g c =
    let numbers = g.T.Element.numbers in
    let clones = rw c.as_slice.ensures.list at c.in_ok-filled.ensures.clones in
    rw (← c.self.view_is, c.from_canonical.ensures)
    (filled_values g.V.Clone.is_clone g.V.PartialEq.eq c.requires numbers.least numbers.greatest _ _ c.as_slice.ensures.canonical clones)

pub returns-clause-first_stays : goal.returns-clause-first_stays
returns-clause-first_stays g c =
    let numbers = g.T.Element.numbers in
    let clones = rw c.as_slice.ensures.list at c.in_ok-filled.ensures.clones in
    rw (← c.self.view_is, c.from_canonical.ensures)
    (filled_stand g.V.Clone.is_clone g.V.PartialEq.eq c.requires numbers.least numbers.greatest _ _ c.as_slice.ensures.canonical clones)
