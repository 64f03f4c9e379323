use Rattle.blaze_joins.proofs.last_values.last_values.Goals as goal

pub sweep-requires : goal.sweep-requires
sweep-requires g c = record { may_enter = λ y low. rw c.last_place-last.ensures (c.in_ok-starts.ensures y) }
