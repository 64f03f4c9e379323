use Rattle.std.proofs.Common.{◌≡◌, take, ap, ◌∙◌}
use Rattle.std.specs.Fn.{CalledAt}
use Rattle.std.specs.List.Retain.{IsFiltered}
use Rattle.ordered_lists.proofs.RetainLemmas.{take_front}
use Rattle.sorted_vector_set.proofs.KeepLemmas.{filtered_ascends}
use Rattle.sorted_vector_set.proofs.set.SortedVectorSet.retain.Goals as goal

pub invariant_of-self : goal.invariant_of-self
invariant_of-self g c =
    let left : c.truncate.new.self.items ≡ take c.bring_forward-kept.result c.bring_forward-kept.new.items =
    c.truncate.ensures.items ∙ ap (take c.bring_forward-kept.result) (take_front _ _ _ (c.bring_forward-kept.auto.items ∙ c.deref_mut.ensures.len)) in
    let kept : IsFiltered (CalledAt g.F.FnMut) c.args.f c.self.inside.items.items c.truncate.new.self.items =
    rw (left, ← c.deref_mut.ensures.value) c.bring_forward-kept.ensures.kept in
    filtered_ascends g.T.Ord.cmp (CalledAt g.F.FnMut) _ _ _ kept c.self.invariant
