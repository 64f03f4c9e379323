use Rattle.std.proofs.Common.{[], ◌∷◌, map, sym, subst, ◌∙◌}
use Rattle.std.specs.Iterator.{Yields}
use Rattle.std.specs.Map.Iter.{deref}
use Rattle.ordered_lists.proofs.CloneLemmas.{equal_is, equals_ascend, zip_more}
use Rattle.sorted_vector_set.proofs.LazyLemmas.{map-append}
use Rattle.sorted_vector_set.proofs.combine.clones_of.Goals as goal

pub loop-item-preserved : goal.loop-item-preserved
loop-item-preserved g c =
    let went = c.in-Some.ensures.goes.on c.loop-item.invariant.1 in
    (went.0, went.1, rw (map-append deref c.loop-item.yielded (c.in-Some.item ∷ []), c.in_ok-push.ensures.items) (zip_more g.T.Clone.is_clone _ _ _ _ c.loop-item.invariant.2 c.in_ok-clone.ensures.cases))

pub invariant_of-result : goal.invariant_of-result
invariant_of-result g c =
    let ran = subst (λ s. Yields g.I.Iterator.next_gives s c.loop-item.yielded c.loop-item.item-iterator) c.into_iter-item-iterator.ensures.into_iter_gives c.loop-item.yielded_by in
    equals_ascend g.T.Ord.cmp g.met.T.Ord.total g.T.Clone.is_clone (λ x y cloned. equal_is _ (sym (g.met.T.Ord.matches_eq y x) ∙ c.requires.clones x y cloned))
    (map deref c.loop-item.yielded) c.loop-item.copies.items c.loop-item.invariant.2
    (c.requires.ascending c.loop-item.yielded (c.next.new.self, (c.loop-item.item-iterator, ran, c.in-None.ensures.steps)))
