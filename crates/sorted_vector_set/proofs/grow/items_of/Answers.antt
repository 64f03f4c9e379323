use Rattle.std.proofs.Common.{[], ◌∷◌, ◌++◌, ap, ◌∙◌}
use Rattle.sorted_vector_set.proofs.grow.items_of.Goals as goal

pub loop-item-preserved : goal.loop-item-preserved
loop-item-preserved g c = c.in_ok-push.ensures.items ∙ ap (λ t. t ++ c.in-Some.item ∷ []) c.loop-item.invariant
