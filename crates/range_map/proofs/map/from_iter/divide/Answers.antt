use Rattle.range_map.specs.Valued.{pairs_in_numbers}
use Rattle.range_map.proofs.DividedLemmas.{divided_sorted, sorted_is_whole}
use Rattle.range_map.proofs.map.from_iter.divide.Goals as goal

pub returns-then-is_map : goal.returns-then-is_map
returns-then-is_map g c =
    let numbers = g.T.Element.numbers in
    let map = rw c.as_slice.ensures.value at c.if-is_map.ensures in
    rw c.new.ensures.items record {
      map = map;
      divided = sorted_is_whole numbers g.T.Ord.cmp g.met.T.Element.numbered g.V.PartialEq.eq g.met.V.Eq.laws.refl c.args.pairs.items c.sort_by_range.new.pairs.items
          c.in_ok-sort_by_range.ensures.permutation c.in_ok-sort_by_range.ensures.placed map;
    }

pub returns : goal.returns
returns g c =
    let numbers = g.T.Element.numbers in
    let made = c.in_ok-divided.divided in
    let both = divided_sorted numbers g.T.Ord.cmp g.met.T.Element.numbered g.V.PartialEq.eq g.met.V.Eq.laws.refl
    c.args.pairs.items c.sort_by_range.new.pairs.items (pairs_in_numbers numbers made.kept.items) (pairs_in_numbers numbers made.discarded.items)
    c.in_ok-sort_by_range.ensures.permutation c.in_ok-sort_by_range.ensures.placed c.in_ok-divided.ensures.given c.in_ok-divided.ensures.rules in
    record { map = record { are_ranges = c.in_ok-divided.ensures.ranges; canonical = both.0 }; divided = both.1 }
