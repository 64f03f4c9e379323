use Rattle.std.proofs.Common.{true}
use Rattle.ordered_lists.specs.Lists.{union}
use Rattle.ordered_lists.proofs.WalkLemmas.{walk-union}
use Rattle.sorted_iter.specs.Hints.{union_hint}
use Rattle.sorted_iter.proofs.HintLemmas.{hint-of, union-bounds, union-length}
use Rattle.sorted_iter.proofs.streams.UnionIterator.size_hint.Goals as goal

pub returns-clause-table : goal.returns-clause-table
returns-clause-table g c =
    let cmp = g.I.Item.Ord.cmp in
    hint-of cmp (union cmp) true true true union_hint (walk-union g.met.I.Item.Ord.total) (λ a b xs ys l r. union-bounds a b xs ys _ l r (union-length cmp xs ys)) c.args.self.now c.size_hint.ensures c.size_hint-2.ensures c.of_union.ensures
