use Rattle.range_map.specs.Valued.{pair_in_numbers}
use Rattle.blaze_joins.proofs.PlaceLemmas.{get_there}
use Rattle.blaze_joins.proofs.map.RangeMapBlaze.clone_at_place.Goals as goal

pub returns-in_ok-clone-in-Some-get : goal.returns-in_ok-clone-in-Some-get
returns-in_ok-clone-in-Some-get g c =
    let there = get_there (pair_in_numbers g.T.Element.numbers) c.as_slice.result.now c.in-Some.place c.in-Some-get.pair.now c.in-Some-get.ensures.lookup.3.0 c.in-Some-get.ensures.lookup.1 in
    rw (c.in-Some.is, ← c.self.view_is, ← c.as_slice.ensures.list, there) c.in_ok-clone-in-Some-get.ensures.cases
