use Rattle.std.proofs.Common.{true, false}
use Rattle.ordered_lists.specs.Lists.{symmetric_difference}
use Rattle.ordered_lists.proofs.WalkLemmas.{walk-symmetric_difference}
use Rattle.sorted_iter.specs.Streams.{symmetric_difference_sides}
use Rattle.sorted_iter.proofs.CopyLemmas.{copy-of}
use Rattle.sorted_iter.proofs.streams.SymmetricDifference.try_clone.Goals as goal

pub returns : goal.returns
returns g c =
    let total = g.met.I.Item.Ord.total in
    copy-of symmetric_difference_sides g.I.Item.Ord.cmp g.I.Item.PartialEq.eq (symmetric_difference g.I.Item.Ord.cmp) true false true g.I.Iterator.can_next g.I.Iterator.remaining g.I.Iterator.next_gives g.J.Iterator.can_next g.J.Iterator.remaining
    g.J.Iterator.next_gives total g.met.I.Item.PartialOrd.laws g.met.I.Item.Ord.matches_partial_cmp g.met.I.Item.Eq.laws.refl (walk-symmetric_difference total) c.requires.left c.requires.right c.requires.items _ _ c.in_ok-sides.ensures
