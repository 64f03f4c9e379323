use Rattle.ordered_lists.proofs.WalkLemmas.{ascends-union, ascends-intersection, ascends-difference, ascends-symmetric_difference}
use Rattle.ordered_lists.proofs.laws.operations_ascend.Goals as goal

pub returns : goal.returns
returns g c = λ xs ys a b.
    let o = g.met.T.Ord.total in
    (ascends-union o xs ys a b, ascends-intersection o xs ys a, ascends-difference o xs ys a, ascends-symmetric_difference o xs ys a b)
