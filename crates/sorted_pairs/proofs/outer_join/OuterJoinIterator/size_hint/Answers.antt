use Rattle.ordered_lists.specs.Joins.{outer_join}
use Rattle.sorted_iter.specs.Hints.{union_hint}
use Rattle.sorted_pairs.proofs.JoinHintLemmas.{joined-hint, outer_join-bounds}
use Rattle.sorted_pairs.proofs.outer_join.OuterJoinIterator.size_hint.Goals as goal

pub returns-clause-table : goal.returns-clause-table
returns-clause-table g c =
    joined-hint g.K.Ord.cmp (outer_join g.K.Ord.cmp) union_hint (outer_join-bounds g.met.K.Ord.total) c.args.self.now c.size_hint.ensures c.size_hint-2.ensures c.of_union.ensures
