use Rattle.std.proofs.Common.{true, false}
use Rattle.ordered_lists.specs.Lists.{intersection}
use Rattle.ordered_lists.proofs.WalkLemmas.{walk-intersection}
use Rattle.sorted_iter.specs.Hints.{intersection_hint}
use Rattle.sorted_iter.proofs.HintLemmas.{hint-of, intersection-bounds, intersection-length}
use Rattle.sorted_iter.proofs.streams.IntersectionIterator.size_hint.Goals as goal

pub returns-clause-table : goal.returns-clause-table
returns-clause-table g c =
    let cmp = g.I.Item.Ord.cmp in
    hint-of cmp (intersection cmp) false true false intersection_hint (walk-intersection g.met.I.Item.Ord.total) (λ a b xs ys l r. intersection-bounds a b xs ys _ l r (intersection-length cmp xs ys)) c.args.self.now c.size_hint.ensures c.size_hint-2.ensures c.of_intersection.ensures
