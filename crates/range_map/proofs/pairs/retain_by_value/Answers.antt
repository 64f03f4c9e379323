use Rattle.std.proofs.Common.{◌≡◌, take, ap, ◌∙◌}
use Rattle.ordered_lists.proofs.RetainLemmas.{take_front}
use Rattle.range_map.proofs.pairs.retain_by_value.Goals as goal

pub returns : goal.returns
returns g c =
    let left : c.truncate.new.self.items ≡ take c.bring_forward-kept.result c.bring_forward-kept.new.pairs =
    c.truncate.ensures.items ∙ ap (take c.bring_forward-kept.result) (take_front _ _ _ (c.bring_forward-kept.auto.pairs ∙ c.deref_mut.ensures.len)) in
    rw (left, ← c.deref_mut.ensures.value) c.bring_forward-kept.ensures.kept
