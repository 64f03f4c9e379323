use Rattle.std.proofs.Common.{rules, ◌∙◌, sym}
use Rattle.sorted_iter.proofs.SourceLists.{list-of_copied, items-of_loop}
use Rattle.sorted_iter_tests.proofs.tests.symmetric_difference_of.Goals as goal

pub returns : goal.returns
returns g c =
    let a = c.assume_sorted_by_item-left.ensures.lists _ (list-of_copied _ c.args.a.now (search rules)) in
    let b = c.assume_sorted_by_item-right.ensures.lists _ (list-of_copied _ c.args.b.now (search rules)) in
    let all = c.symmetric_difference-x-items.ensures.lists _ _ a b c.requires.left c.requires.right in
    c.loop-x.invariant.2 ∙ items-of_loop c.loop-x.yielded (rw (sym c.into_iter-x-iterator.ensures.into_iter_gives) at all) c.loop-x.yielded_by c.in-None.ensures.steps
