use Rattle.range_map.proofs.MergeLemmas.{pushed_last, pushed_apart}
use Rattle.range_map.proofs.set.merging.join_last.Goals as goal

pub returns-then-joins : goal.returns-then-joins
returns-then-joins g c =
    let both = pushed_last g.T.Element.numbers _ _ _ _ c.args.range c.in-Some.ensures.items c.requires.set.are_ranges c.requires.set.canonical c.requires.begin_by
    c.start.ensures.range c.end.ensures.high c.cover.result c.push_reserved-then-joins.ensures.items c.if-joins.ensures
    c.cover.ensures.start c.cover.ensures.end c.cover.ensures.range in
    record { are_ranges = both.0; joined = both.1 }

pub returns-else-joins : goal.returns-else-joins
returns-else-joins g c =
    let both = pushed_apart g.T.Element.numbers _ _ _ _ c.args.range c.in-Some.ensures.items c.requires.set.are_ranges c.requires.set.canonical c.requires.begin_by
    c.start.ensures.range c.end.ensures.high (rw c.push_reserved-else-joins.ensures.items at c.push_reserved-else-joins-2.ensures.items) c.if-joins.ensures in
    record { are_ranges = both.0; joined = both.1 }
