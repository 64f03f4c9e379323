use Rattle.std.proofs.Common.{◌≡◌, [], ◌∷◌, ◌+◌, drop, arith, ap, ◌∙◌}
use Rattle.std.proofs.lemmas.Grind.{common_steps}
use Rattle.number_line.proofs.ValuedFullLemmas.{ranges_hold}
use Rattle.range_map.specs.Bounds.{ranges_of}
use Rattle.range_map.specs.Valued.{pairs_in_numbers}
use Rattle.range_map.proofs.JoinLemmas.{joined_start, joined_next, joined_step, joined_all, map_in_order}
use Rattle.range_map.proofs.map.RangeMap.to_range_set.Goals as goal

pub loop-pair-init : goal.loop-pair-init
loop-pair-init g c = record {
  joined = rw c.in_ok-set.ensures
      (joined_start _ _ _ (rw c.deref-pair-items.ensures.value (map_in_order g.V.PartialEq.eq _ _ _ c.self.invariant.canonical)));
}

pub push_joined-requires : goal.push_joined-requires
push_joined-requires g c =
    let i = c.loop-pair.pair-index in
    let items = c.deref-pair-items.result.now in
    let next : drop i items ≡ c.pair-item.result ∷ drop (i + 1) items = grind (arith, common_steps) in
    joined_next _ _ _ _ _ _ _ (ap (λ l. ranges_of (pairs_in_numbers g.T.Element.numbers l)) next) c.loop-pair.invariant.joined

pub loop-pair-preserved : goal.loop-pair-preserved
loop-pair-preserved g c =
    let i = c.loop-pair.pair-index in
    let items = c.deref-pair-items.result.now in
    let next : drop i items ≡ c.pair-item.result ∷ drop (i + 1) items = grind (arith, common_steps) in
    record {
      joined = joined_step _ _ _ _ _ _ _ _ (ap (λ l. ranges_of (pairs_in_numbers g.T.Element.numbers l)) next) c.loop-pair.invariant.joined c.in_ok-push_joined.ensures;
    }

pub returns-clause-members : goal.returns-clause-members
returns-clause-members g c = λ x.
    let numbers = g.T.Element.numbers in
    let items = c.deref-pair-items.result.now in
    let none : drop c.loop-pair.pair-index items ≡ [] = grind (arith, common_steps) in
    let self_is = ap (pairs_in_numbers numbers) c.deref-pair-items.ensures.value ∙ c.self.view_is in
    rw (← self_is) (joined_all _ _ _ _ _ (ap (λ l. ranges_of (pairs_in_numbers numbers l)) none) c.loop-pair.invariant.joined x ∙ ranges_hold (pairs_in_numbers numbers items) x)
