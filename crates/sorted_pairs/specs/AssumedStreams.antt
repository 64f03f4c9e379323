-- The iterator by assumption.
use Rattle.std.specs.Prelude.{Option}
use Rattle.sorted_pairs.specs.declared.assumed.AssumeSortedByKey.{AssumeSortedByKey}

-- the iterator inside
abbrev pub assumed_source : {S : Type 0} → AssumeSortedByKey S → S
assumed_source s = s.source

abbrev pub assumed_steps : {S A : Type 0} → (S → Option A → S → Type 0) → AssumeSortedByKey S → Option A → AssumeSortedByKey S → Type 0
assumed_steps steps s r t = steps (assumed_source s) r (assumed_source t)
