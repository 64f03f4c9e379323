use Rattle.ordered_lists.specs.Joins.{join}
use Rattle.sorted_iter.specs.Hints.{intersection_hint}
use Rattle.sorted_pairs.proofs.JoinHintLemmas.{joined-hint, join-bounds}
use Rattle.sorted_pairs.proofs.join.JoinIterator.size_hint.Goals as goal

pub returns-clause-table : goal.returns-clause-table
returns-clause-table g c =
    joined-hint g.K.Ord.cmp (join g.K.Ord.cmp) intersection_hint (join-bounds g.met.K.Ord.total) c.args.self.now c.size_hint.ensures c.size_hint-2.ensures c.of_intersection.ensures
