use Rattle.std.proofs.Common.{refl}
use Rattle.ordered_lists.specs.Joins.{left_join}
use Rattle.sorted_pairs.specs.JoinHints.{left_hint}
use Rattle.sorted_pairs.proofs.JoinHintLemmas.{no-hint, joined-hint, left_join-bounds}
use Rattle.sorted_pairs.proofs.left_join.LeftJoinIterator.size_hint.Goals as goal

pub returns-clause-table : goal.returns-clause-table
returns-clause-table g c =
    let none = no-hint (g.J.Iterator.remaining c.args.self.now.sides.right.source) in
    joined-hint g.K.Ord.cmp (left_join g.K.Ord.cmp) left_hint (left_join-bounds g.met.K.Ord.total) c.args.self.now c.size_hint.ensures (none.0, none.1, refl) refl
