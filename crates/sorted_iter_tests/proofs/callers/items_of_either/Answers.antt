use Rattle.sorted_iter.proofs.SourceLists.{list-of_owned, items-of_collect}
use Rattle.sorted_iter_tests.proofs.callers.items_of_either.Goals as goal

pub returns : goal.returns
returns g c =
    let a = c.into_iter.ensures.into_iter_gives in
    let b = c.into_iter-2.ensures.into_iter_gives in
    items-of_collect c.collect.result (c.union.ensures.lists _ _ (list-of_owned _ _ a.0) (list-of_owned _ _ b.0) a.4 b.4) c.collect.ensures.ran
