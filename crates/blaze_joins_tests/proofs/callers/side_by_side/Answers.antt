use Rattle.std.proofs.Common.{◌∙◌, sym}
use Rattle.blaze_joins.specs.Laws.{Pairs, either_values}
use Rattle.blaze_joins.proofs.CallLemmas.{join_weaker}
use Rattle.blaze_joins.proofs.ExpandLemmas.{full_join_expands}
use Rattle.blaze_joins_tests.proofs.callers.side_by_side.Goals as goal

pub returns : goal.returns
returns g c = λ n end.
    full_join_expands _ g.V.PartialEq.eq g.W.PartialEq.eq g.met.V.Eq.laws g.met.W.Eq.laws _ _ n _ _ _ _ end
    (join_weaker _ (Pairs either_values) (λ f h x next k. let called = k.called in let met = called.met in sym k.shows ∙ sym met.2.0) _ _ _ _ _ _ _ _ c.in_ok-map.ensures.joined)
