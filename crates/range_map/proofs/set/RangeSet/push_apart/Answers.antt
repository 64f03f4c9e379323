use Rattle.std.proofs.lemmas.List.{map_push}
use Rattle.range_map.specs.Range.{in_numbers}
use Rattle.range_map.proofs.CanonicalLemmas.{canonical-push, ends_by, ranges-push}
use Rattle.range_map.proofs.set.RangeSet.push_apart.Goals as goal

pub invariant_of-self-2 : goal.invariant_of-self-2
invariant_of-self-2 g c =
    let numbers = g.T.Element.numbers in
    let apart = rw (← c.self.view_is) at c.requires in
    rw (c.in_ok-push.ensures.items) record {
      are_ranges = ranges-push numbers _ _ c.self.invariant.are_ranges c.start.ensures.range;
      canonical = rw (map_push (in_numbers numbers) c.self.inside.ranges.items c.args.range)
          (canonical-push numbers.least numbers.greatest _ (in_numbers numbers c.args.range)
          (ends_by numbers.least numbers.greatest _ _ c.self.invariant.canonical apart)
          c.start.ensures.low c.start.ensures.range.ordered c.end.ensures.high);
    }
