use Rattle.std.proofs.Common.{ap, ◌∙◌}
use Rattle.range_map.specs.Merging.{ending_from}
use Rattle.range_map.specs.Set.{all_in_numbers}
use Rattle.range_map.proofs.EndLemmas.{ending_canonical, ending_later}
use Rattle.range_map.proofs.set.places.ranges_from.Goals as goal

pub walk_from-requires : goal.walk_from-requires
walk_from-requires g c =
    let numbers = g.T.Element.numbers in
    rw c.requires.rest (ending_canonical (numbers.number c.args.last) numbers.least numbers.greatest (all_in_numbers numbers c.args.all.now) c.requires.canonical)

pub returns-else-is_below : goal.returns-else-is_below
returns-else-is_below g c =
    let numbers = g.T.Element.numbers in
    let n = numbers.number c.args.start in
    c.walk_from.ensures ∙ (ap (ending_from n) c.requires.rest ∙ ending_later n (numbers.number c.args.last) (all_in_numbers numbers c.args.all.now) c.if-is_below.ensures)
