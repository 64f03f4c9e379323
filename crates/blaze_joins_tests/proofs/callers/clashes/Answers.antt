use Rattle.std.proofs.Common.{◌∙◌, sym, ap}
use Rattle.blaze_joins.specs.Laws.{Pairs, both_values}
use Rattle.blaze_joins.proofs.CallLemmas.{join_weaker}
use Rattle.blaze_joins.proofs.ExpandLemmas.{inner_join_expands}
use Rattle.blaze_joins_tests.proofs.callers.clashes.Goals as goal

pub returns : goal.returns
returns g c = λ n end.
    inner_join_expands _ g.V.PartialEq.eq g.W.PartialEq.eq g.met.V.Eq.laws g.met.W.Eq.laws _ _ n _ _ _ _ end
    (join_weaker _ (Pairs both_values) (λ f h x next k. let called = k.called in let met = called.met in sym k.shows ∙ ap both_values (sym met.0)) _ _ _ _ _ _ _ _ c.in_ok-map.ensures.joined)
