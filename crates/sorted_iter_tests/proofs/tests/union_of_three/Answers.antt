use Rattle.ordered_lists.proofs.WalkLemmas.{ascends-union}
use Rattle.sorted_iter.proofs.SourceLists.{list-of_into_iter, items-of_collect}
use Rattle.sorted_iter_tests.proofs.tests.union_of_three.Goals as goal

pub returns : goal.returns
returns g c =
    let first = c.assume_sorted_by_item-first.ensures.lists _ (list-of_into_iter _ _ c.into_iter.ensures.rest c.into_iter.ensures.runs) in
    let second = c.assume_sorted_by_item-second.ensures.lists _ (list-of_into_iter _ _ c.into_iter-2.ensures.rest c.into_iter-2.ensures.runs) in
    let third = c.assume_sorted_by_item-third.ensures.lists _ (list-of_into_iter _ _ c.into_iter-3.ensures.rest c.into_iter-3.ensures.runs) in
    let inner = c.union.ensures.lists _ _ first second c.requires.first c.requires.second in
    let outer = c.union-2.ensures.lists _ _ inner third (ascends-union g.met.T.Ord.total _ _ c.requires.first c.requires.second) c.requires.third in
    items-of_collect c.collect.result outer c.collect.ensures.ran
