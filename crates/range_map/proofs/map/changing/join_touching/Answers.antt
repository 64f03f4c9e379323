use Rattle.std.proofs.Common.{rules}
use Rattle.range_map.proofs.ChangeLemmas.{joined_list, joined_ranges}
use Rattle.range_map.proofs.map.changing.join_touching.Goals as goal

pub returns-clause-ranges : goal.returns-clause-ranges
returns-clause-ranges g c =
    joined_ranges g.T.Element.numbers g.V.PartialEq.eq _
    (λ s x k b t y l r. record { next = search rules; goes_on = search rules; range = search rules; joined = search rules }) _ _ _ c.requires c.dedup_by.ensures.filtered.told

pub returns-clause-merged : goal.returns-clause-merged
returns-clause-merged g c =
    joined_list g.T.Element.numbers g.V.PartialEq.eq _
    (λ s x k b t y l r. record { next = search rules; goes_on = search rules; range = search rules; joined = search rules }) _ _ _ c.dedup_by.ensures.filtered.told
