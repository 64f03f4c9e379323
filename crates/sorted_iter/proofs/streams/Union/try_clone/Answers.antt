use Rattle.std.proofs.Common.{true}
use Rattle.ordered_lists.specs.Lists.{union}
use Rattle.ordered_lists.proofs.WalkLemmas.{walk-union}
use Rattle.sorted_iter.specs.Streams.{union_sides}
use Rattle.sorted_iter.proofs.CopyLemmas.{copy-of}
use Rattle.sorted_iter.proofs.streams.Union.try_clone.Goals as goal

pub returns : goal.returns
returns g c =
    let total = g.met.I.Item.Ord.total in
    copy-of union_sides g.I.Item.Ord.cmp g.I.Item.PartialEq.eq (union g.I.Item.Ord.cmp) true true true g.I.Iterator.can_next g.I.Iterator.remaining g.I.Iterator.next_gives g.J.Iterator.can_next g.J.Iterator.remaining
    g.J.Iterator.next_gives total g.met.I.Item.PartialOrd.laws g.met.I.Item.Ord.matches_partial_cmp g.met.I.Item.Eq.laws.refl (walk-union total) c.requires.left c.requires.right c.requires.items _ _ c.in_ok-sides.ensures
