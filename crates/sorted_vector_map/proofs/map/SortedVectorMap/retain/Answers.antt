use Rattle.std.proofs.Common.{◌≡◌, take, ap, ◌∙◌}
use Rattle.std.specs.Map.Calls.{CalledAtPair, RetainsPairs}
use Rattle.ordered_lists.proofs.RetainLemmas.{take_front}
use Rattle.sorted_vector_map.proofs.RetainLemmas.{retained_ascends}
use Rattle.sorted_vector_map.proofs.map.SortedVectorMap.retain.Goals as goal

pub invariant_of-self : goal.invariant_of-self
invariant_of-self g c =
    let left : c.truncate.new.self.items ≡ take c.bring_forward-kept.result c.bring_forward-kept.new.pairs =
    c.truncate.ensures.items ∙ ap (take c.bring_forward-kept.result) (take_front _ _ _ (c.bring_forward-kept.auto.pairs ∙ c.deref_mut.ensures.len)) in
    let kept : RetainsPairs (CalledAtPair g.F.FnMut) c.args.f c.self.inside.items.items c.truncate.new.self.items =
    rw (left, ← c.deref_mut.ensures.value) c.bring_forward-kept.ensures.kept in
    retained_ascends g.K.Ord.cmp (CalledAtPair g.F.FnMut) _ _ _ kept c.self.invariant
