use Rattle.std.proofs.Common.{rules, ap, ◌∙◌}
use Rattle.std.proofs.lemmas.Fn.{always_returns_same}
use Rattle.range_map.specs.Set.{all_in_numbers}
use Rattle.range_map.proofs.EndLemmas.{ends_before, parted, ending_drop, slice_from}
use Rattle.range_map.proofs.set.places.search_from.Goals as goal

pub returns : goal.returns
returns g c =
    let numbers = g.T.Element.numbers in
    let n = numbers.number c.args.start in
    let ranges = c.args.ranges.now in
    let place = c.partition_point-place in
    let point = place.ensures.partitioned (ends_before numbers n) (always_returns_same _ _ _ (λ a r h called. search rules))
    (parted numbers n numbers.least numbers.greatest ranges c.requires) in
    ap (all_in_numbers numbers) (slice_from place.result ranges) ∙ ending_drop numbers n ranges place.result point
