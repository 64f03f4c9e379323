use Rattle.std.proofs.Common.{◌∙◌, sym}
use Rattle.sorted_iter.proofs.RefLists.{refs-of_union, refs-of_keys, refs-of_loop}
use Rattle.sorted_iter_tests.proofs.tests.keys_of_union.Goals as goal

pub returns : goal.returns
returns g c =
    let all = refs-of_union g.K.Ord.cmp _ _ _ _ _ _ c.union-key-items.ensures.runs _ _ (refs-of_keys _ _ c.iter.ensures.rest) (refs-of_keys _ _ c.iter-2.ensures.rest) c.iter.ensures.ordered c.iter-2.ensures.ordered in
    c.loop-key.invariant.2 ∙ refs-of_loop c.loop-key.yielded (rw (sym c.into_iter-key-iterator.ensures.into_iter_gives) at all) c.loop-key.yielded_by c.in-None.ensures.steps
