use Rattle.std.proofs.Common.{true, false}
use Rattle.ordered_lists.specs.Lists.{difference}
use Rattle.ordered_lists.proofs.WalkLemmas.{walk-difference}
use Rattle.sorted_iter.specs.Hints.{difference_hint}
use Rattle.sorted_iter.proofs.HintLemmas.{hint-of, difference-bounds, difference-length}
use Rattle.sorted_iter.proofs.streams.DifferenceIterator.size_hint.Goals as goal

pub returns-clause-table : goal.returns-clause-table
returns-clause-table g c =
    let cmp = g.I.Item.Ord.cmp in
    hint-of cmp (difference cmp) true false false difference_hint (walk-difference g.met.I.Item.Ord.total) (λ a b xs ys l r. difference-bounds a b xs ys _ l r (difference-length cmp xs ys)) c.args.self.now c.size_hint.ensures c.size_hint-2.ensures c.of_difference.ensures
