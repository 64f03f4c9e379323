use Rattle.std.proofs.Common.{rules}
use Rattle.sorted_iter.proofs.SourceLists.{list-of_copied, items-of_collect}
use Rattle.sorted_pairs_tests.proofs.callers.outer_join_of.Goals as goal

pub returns : goal.returns
returns g c =
    let a = c.assume_sorted_by_key-left.ensures.lists _ (list-of_copied _ c.args.a.now (search rules)) in
    let b = c.assume_sorted_by_key-right.ensures.lists _ (list-of_copied _ c.args.b.now (search rules)) in
    items-of_collect c.collect.result (c.outer_join.ensures.lists _ _ a b c.requires.left c.requires.right) c.collect.ensures.ran
