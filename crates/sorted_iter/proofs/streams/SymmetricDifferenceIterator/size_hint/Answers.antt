use Rattle.std.proofs.Common.{true, false}
use Rattle.ordered_lists.specs.Lists.{symmetric_difference}
use Rattle.ordered_lists.proofs.WalkLemmas.{walk-symmetric_difference}
use Rattle.sorted_iter.specs.Hints.{symmetric_difference_hint}
use Rattle.sorted_iter.proofs.HintLemmas.{hint-of, apart-bounds, apart-length}
use Rattle.sorted_iter.proofs.streams.SymmetricDifferenceIterator.size_hint.Goals as goal

pub returns-clause-table : goal.returns-clause-table
returns-clause-table g c =
    let cmp = g.I.Item.Ord.cmp in
    hint-of cmp (symmetric_difference cmp) true false true symmetric_difference_hint (walk-symmetric_difference g.met.I.Item.Ord.total) (λ a b xs ys l r. apart-bounds a b xs ys _ l r (apart-length cmp xs ys)) c.args.self.now c.size_hint.ensures c.size_hint-2.ensures c.of_symmetric_difference.ensures
