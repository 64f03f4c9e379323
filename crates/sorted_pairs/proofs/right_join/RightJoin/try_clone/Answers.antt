use Rattle.sorted_pairs.specs.JoinStreams.{right_join_sides}
use Rattle.sorted_pairs.proofs.JoinCopyLemmas.{right_join-copy}
use Rattle.sorted_pairs.proofs.right_join.RightJoin.try_clone.Goals as goal

pub returns : goal.returns
returns g c =
    right_join-copy right_join_sides g.K.Ord.cmp g.K.PartialEq.eq g.I.Iterator.can_next g.I.Iterator.remaining g.I.Iterator.next_gives g.J.Iterator.can_next g.J.Iterator.remaining g.J.Iterator.next_gives g.met.K.Ord.total g.met.K.PartialOrd.laws
    g.met.K.Ord.matches_partial_cmp g.met.K.Eq.laws.refl g.K.Clone.is_clone g.V.Clone.is_clone g.W.Clone.is_clone c.requires.left c.requires.right c.requires.keys _ _ (c.in_ok-left.ensures, c.in_ok-right.ensures)
