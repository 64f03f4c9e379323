use Rattle.std.proofs.Common.{subst, Ok}
use Rattle.std.specs.Iterator.{IsFinite}
use Rattle.sorted_iter.proofs.SourceLists.{list-of_into_iter, items-of_run}
use Rattle.sorted_iter.specs.MultiwaySteps.{MultiListsAre}
use Rattle.sorted_iter.proofs.MultiwayCallers.{all-of_vec, union-of_collect}
use Rattle.sorted_iter.specs.MultiwayViews.{union_heads}
use Rattle.sorted_iter_tests.proofs.multiway_tests.all_of.Goals as goal

pub multiway_union-requires-clause-sources : goal.multiway_union-requires-clause-sources
multiway_union-requires-clause-sources g c = λ j e. (tt, tt, all-of_vec (λ it. g.I.Iterator.can_next it × IsFinite (g.I.Iterator.remaining it)) j _ e.0 c.requires.can)

pub multiway_union-requires-clause-in_order : goal.multiway_union-requires-clause-in_order
multiway_union-requires-clause-in_order g c = λ j e. all-of_vec g.I.SortedByItem.in_order j _ e.0 c.requires.ascend

pub returns : goal.returns
returns g c = λ ls z.
    let m = c.in_ok-multiway_union.ensures.gives in
    let same = items-of_run m.2.0 m.2.1 m.2.2 (list-of_into_iter m.0 c.args.iters.items m.1.0 m.1.3) in
    let lists = subst (MultiListsAre g.I.Item.Ord.cmp _ _ g.I.Iterator.next_gives) same m.2.3.1 in
    union-of_collect union_heads ls {E = Unit {0}} (Ok c.in_ok-collect.field-0) lists z c.in_ok-collect.ensures.ran
