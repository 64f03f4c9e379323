use Rattle.std.proofs.lemmas.Grind.{common_steps}
use Rattle.std.proofs.Common.{◌≡◌, [], ◌∷◌, ◌+◌, drop, arith, refl, ap, ◌∙◌}
use Rattle.std.specs.Prelude.{◌≤ℤ◌}
use Rattle.std.proofs.lemmas.Int.{ints}
use Rattle.range_map.specs.Valued.{pairs_in_numbers}
use Rattle.number_line.proofs.ValuedFullLemmas.{total_start, total_step, total_end, gap_is_none, rest_is_none}
use Rattle.range_map.proofs.map.RangeMap.is_full.Goals as goal

pub loop-pair-init : goal.loop-pair-init
loop-pair-init g c =
    let numbers = g.T.Element.numbers in
    let order : numbers.least ≤ℤ numbers.greatest = omega (arith, ints, c.in_type.ensures.low, c.in_type.ensures.high) in
    rw c.min_value-start.ensures.number
    (total_start g.V.PartialEq.eq numbers.least numbers.greatest _ order (rw c.deref-pair-items.ensures.value c.self.invariant.canonical))

pub loop-pair-preserved : goal.loop-pair-preserved
loop-pair-preserved g c =
    let i = c.loop-pair.pair-index in
    let items = c.deref-pair-items.result.now in
    let next : drop i items ≡ c.pair-item.result ∷ drop (i + 1) items = grind (arith, common_steps) in
    total_step g.V.PartialEq.eq _ _ _ _ _ _ _ _ (ap (pairs_in_numbers g.T.Element.numbers) next) c.loop-pair.invariant
    (rw (← c.start.ensures.value) c.if-is_below.ensures) (rw (← c.end.ensures.value) c.in-Some.ensures.next.1) c.in_type-in-Some.ensures.high

pub returns-then-is_below : goal.returns-then-is_below
returns-then-is_below g c =
    let numbers = g.T.Element.numbers in
    let i = c.loop-pair.pair-index in
    let items = c.deref-pair-items.result.now in
    let next : drop i items ≡ c.pair-item.result ∷ drop (i + 1) items = grind (arith, common_steps) in
    let self_is = ap (pairs_in_numbers numbers) c.deref-pair-items.ensures.value ∙ c.self.view_is in
    rw (← self_is) (
      (λ no. absurd (cc)),
      λ total. absurd (gap_is_none g.V.PartialEq.eq _ _ _ _ _ _ _
          (ap (pairs_in_numbers numbers) next) c.loop-pair.invariant (rw (← c.start.ensures.value) c.if-is_below.ensures) total),
    )

pub returns-in-None : goal.returns-in-None
returns-in-None g c =
    let numbers = g.T.Element.numbers in
    let i = c.loop-pair.pair-index in
    let items = c.deref-pair-items.result.now in
    let next : drop i items ≡ c.pair-item.result ∷ drop (i + 1) items = grind (arith, common_steps) in
    let self_is = ap (pairs_in_numbers numbers) c.deref-pair-items.ensures.value ∙ c.self.view_is in
    rw (← self_is) (
      (λ yes. total_end g.V.PartialEq.eq _ _ _ _ _ _ _ (ap (pairs_in_numbers numbers) next) c.loop-pair.invariant
          (rw (← c.start.ensures.value) c.if-is_below.ensures) (rw (← c.end.ensures.value) (c.in-None.ensures.at_end.0 refl))),
      λ total. refl,
    )

pub returns : goal.returns
returns g c =
    let numbers = g.T.Element.numbers in
    let none : drop c.loop-pair.pair-index c.deref-pair-items.result.now ≡ [] = grind (arith, common_steps) in
    let self_is = ap (pairs_in_numbers numbers) c.deref-pair-items.ensures.value ∙ c.self.view_is in
    rw (← self_is) (
      (λ no. absurd (cc)),
      λ total. absurd (rest_is_none g.V.PartialEq.eq _ _ _ _ _
          (ap (pairs_in_numbers numbers) none) c.loop-pair.invariant total),
    )
