use Rattle.std.proofs.Common.{[], ◌∷◌, ◌++◌, ap, ◌∙◌}
use Rattle.sorted_vector_map.proofs.grow.pairs_of.Goals as goal

pub loop-pair-preserved : goal.loop-pair-preserved
loop-pair-preserved g c = c.in_ok-push.ensures.items ∙ ap (λ t. t ++ c.in-Some.pair ∷ []) c.loop-pair.invariant
