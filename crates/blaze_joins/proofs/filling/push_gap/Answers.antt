use Rattle.range_map.proofs.DividedLemmas.{valued-push}
use Rattle.blaze_joins.proofs.filling.push_gap.Goals as goal

pub returns-in_ok-push-in-Some-clause-ranges : goal.returns-in_ok-push-in-Some-clause-ranges
returns-in_ok-push-in-Some-clause-ranges g c =
    rw c.in_ok-push-in-Some.ensures.items (valued-push g.T.Element.numbers _ _ c.requires c.new.ensures.range)
