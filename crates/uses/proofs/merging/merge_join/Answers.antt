use Rattle.std.proofs.Common.{◌∙◌, sym}
use Rattle.std.specs.Map.Iter.{deref_pair}
use Rattle.sorted_pairs.proofs.RefJoins.{deref_both, seen-of_shown, seen-of_assumed, seen-of_join, seen-of_loop}
use Rattle.uses.proofs.MapSources.{in_order-of_pairs}
use Rattle.uses.proofs.merging.merge_join.Goals as goal

pub assume_sorted_by_key-left-requires : goal.assume_sorted_by_key-left-requires
assume_sorted_by_key-left-requires g c = in_order-of_pairs g.K.Ord.cmp _ _ c.iter.ensures.pairs.all c.iter.ensures.ascending

pub assume_sorted_by_key-right-requires : goal.assume_sorted_by_key-right-requires
assume_sorted_by_key-right-requires g c = in_order-of_pairs g.K.Ord.cmp _ _ c.iter-2.ensures.pairs.all c.iter-2.ensures.ascending

pub returns : goal.returns
returns g c =
    let a = seen-of_assumed deref_pair _ _ _ _ c.assume_sorted_by_key-left.ensures.source (seen-of_shown deref_pair _ _ c.iter.ensures.pairs.all) in
    let b = seen-of_assumed deref_pair _ _ _ _ c.assume_sorted_by_key-right.ensures.source (seen-of_shown deref_pair _ _ c.iter-2.ensures.pairs.all) in
    let all = seen-of_join g.K.Ord.cmp _ _ _ _ c.join-key-items.ensures.runs _ _ a b c.iter.ensures.ascending c.iter-2.ensures.ascending in
    c.loop-key.invariant.2 ∙ seen-of_loop deref_both c.loop-key.yielded (rw (sym c.into_iter-key-iterator.ensures.into_iter_gives) at all) c.loop-key.yielded_by c.in-None.ensures.steps
