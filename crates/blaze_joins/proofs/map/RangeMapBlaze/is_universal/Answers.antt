use Rattle.std.proofs.lemmas.Grind.{common_steps}
use Rattle.std.proofs.Common.{◌≡◌, ◌∷◌, ◌+◌, drop, ◌+ℤ◌, pos, arith, refl, ap, sym, ◌∙◌}
use Rattle.std.proofs.lemmas.Int.{ints}
use Rattle.range_map.specs.Valued.{pairs_in_numbers, pair_in_numbers}
use Rattle.blaze_joins.proofs.UniversalLemmas.{left_step, no_value_in_gap, have_values_step}
use Rattle.blaze_joins.proofs.map.RangeMapBlaze.is_universal.Goals as goal

pub loop-pair-preserved : goal.loop-pair-preserved
loop-pair-preserved g c =
    let numbers = g.T.Element.numbers in
    let i = c.loop-pair.pair-index in
    let items = c.as_slice-pairs.result.now in
    let next : drop i items ≡ c.pair-item.result ∷ drop (i + 1) items = grind (arith, common_steps) in
    let is = ap (pairs_in_numbers numbers) next in
    let above : numbers.number c.in-Some.next ≡ numbers.number c.pair-item.result.0.1 +ℤ pos 1 =
    c.in-Some.ensures.next.1 ∙ ap (λ x. numbers.number x +ℤ pos 1) c.end.ensures.value in
    let touch = rw c.start.ensures.value at c.if-is_below.ensures in
    record {
      is_value = c.in-Some.ensures.next.0;
      left = left_step g.V.PartialEq.eq _ _ _ _ _ (pair_in_numbers numbers c.pair-item.result) _ _ is above c.loop-pair.invariant.left;
      have = have_values_step g.V.PartialEq.eq _ _ _ _ _ (pair_in_numbers numbers c.pair-item.result) _ _ is above touch c.loop-pair.invariant.left c.loop-pair.invariant.have;
    }

pub returns-then-is_below-clause-some_without : goal.returns-then-is_below-clause-some_without
returns-then-is_below-clause-some_without g c =
    let numbers = g.T.Element.numbers in
    let i = c.loop-pair.pair-index in
    let items = c.as_slice-pairs.result.now in
    let next : drop i items ≡ c.pair-item.result ∷ drop (i + 1) items = grind (arith, common_steps) in
    let is = ap (pairs_in_numbers numbers) next in
    let below = rw c.start.ensures.value at c.if-is_below.ensures in
    let value = c.loop-pair.invariant.is_value in (
      numbers.number c.loop-pair.start,
      g.met.T.Element.numbered.low _ value,
      g.met.T.Element.numbered.high _ value,
      rw (← (c.as_slice-pairs.ensures.list ∙ c.self.view_is)) (no_value_in_gap g.V.PartialEq.eq _ _ _ _ _ (pair_in_numbers numbers c.pair-item.result) _ is c.loop-pair.invariant.left _ (omega (arith, ints)) below),
    )

pub returns-in-None-clause-every : goal.returns-in-None-clause-every
returns-in-None-clause-every g c =
    let numbers = g.T.Element.numbers in
    let i = c.loop-pair.pair-index in
    let items = c.as_slice-pairs.result.now in
    let next : drop i items ≡ c.pair-item.result ∷ drop (i + 1) items = grind (arith, common_steps) in
    let is = ap (pairs_in_numbers numbers) next in
    let last : numbers.greatest +ℤ pos 1 ≡ numbers.number c.pair-item.result.0.1 +ℤ pos 1 =
    ap (λ k. k +ℤ pos 1) (sym (c.in-None.ensures.at_end.0 refl) ∙ ap numbers.number c.end.ensures.value) in
    let touch = rw c.start.ensures.value at c.if-is_below.ensures in
    rw (← (c.as_slice-pairs.ensures.list ∙ c.self.view_is)) (λ x low high.
    have_values_step g.V.PartialEq.eq _ _ _ _ _ (pair_in_numbers numbers c.pair-item.result) _ _ is last touch c.loop-pair.invariant.left c.loop-pair.invariant.have x low (omega (arith, ints)))
