use Rattle.std.proofs.Common.{ap, ◌∙◌}
use Rattle.range_map.specs.Valued.{pairs_in_numbers}
use Rattle.range_multimap.proofs.multimap.RangeMultiMap.try_from_iter.Goals as goal

pub returns : goal.returns
returns g c =
    let ran = c.in_ok-pairs.ensures.ran in
    let end = ran.3.2 tt in
    (ran.0, ran.1, ran.2, (end.0, (ran.3.0, ran.3.1, end.1)), c.from_vec.ensures ∙ ap (pairs_in_numbers g.T.Element.numbers) ran.4.0)
