use Rattle.std.proofs.Common.{refl}
use Rattle.ordered_lists.specs.Joins.{right_join}
use Rattle.sorted_pairs.specs.JoinHints.{right_hint}
use Rattle.sorted_pairs.proofs.JoinHintLemmas.{no-hint, joined-hint, right_join-bounds}
use Rattle.sorted_pairs.proofs.right_join.RightJoinIterator.size_hint.Goals as goal

pub returns-clause-table : goal.returns-clause-table
returns-clause-table g c =
    let none = no-hint (g.I.Iterator.remaining c.args.self.now.sides.left.source) in
    joined-hint g.K.Ord.cmp (right_join g.K.Ord.cmp) right_hint (right_join-bounds g.met.K.Ord.total) c.args.self.now (none.0, none.1, refl) c.size_hint.ensures refl
