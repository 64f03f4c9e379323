use Rattle.std.proofs.Common.{rules}
use Rattle.sorted_iter.proofs.SourceLists.{list-of_copied, items-of_collect}
use Rattle.sorted_iter_tests.proofs.tests.difference_of.Goals as goal

pub returns : goal.returns
returns g c =
    let a = c.assume_sorted_by_item-left.ensures.lists _ (list-of_copied _ c.args.a.now (search rules)) in
    let b = c.assume_sorted_by_item-right.ensures.lists _ (list-of_copied _ c.args.b.now (search rules)) in
    items-of_collect c.collect.result (c.difference.ensures.lists _ _ a b c.requires.left c.requires.right) c.collect.ensures.ran
