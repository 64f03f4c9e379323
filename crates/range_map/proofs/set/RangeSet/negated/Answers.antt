use Rattle.std.proofs.lemmas.Grind.{common_steps}
use Rattle.std.proofs.Common.{◌≡◌, [], ◌∷◌, ◌+◌, drop, ◌+ℤ◌, pos, arith, refl, ap, ◌∙◌}
use Rattle.range_map.specs.Set.{all_in_numbers}
use Rattle.range_map.proofs.GapLemmas.{after_gap, complement_apart, complement_full, up_to_greatest}
use Rattle.range_map.proofs.set.RangeSet.negated.Goals as goal

pub push_gap-requires-clause-apart : goal.push_gap-requires-clause-apart
push_gap-requires-clause-apart g c = complement_apart _ _ _ _ _ _ c.loop-range.invariant.complement

pub loop-range-preserved : goal.loop-range-preserved
loop-range-preserved g c =
    let i = c.loop-range.range-index in
    let items = c.deref-range-items.result.now in
    let next : drop i items ≡ c.range-item.result ∷ drop (i + 1) items = grind (arith, common_steps) in
    record {
      complement = rw (c.in-Some.ensures.next.1, c.end.ensures.value)
          (after_gap g.T.Element.numbers _ _ _ _ _ _ _ next c.loop-range.invariant.complement c.in_ok-push_gap.ensures);
    }

pub returns-in-None : goal.returns-in-None
returns-in-None g c =
    let i = c.loop-range.range-index in
    let items = c.deref-range-items.result.now in
    let next : drop i items ≡ c.range-item.result ∷ drop (i + 1) items = grind (arith, common_steps) in
    let both = complement_full _ _ _ _ _ _
    (after_gap g.T.Element.numbers _ _ _ _ _ _ _ next c.loop-range.invariant.complement c.in_ok-push_gap.ensures)
    (rw (← c.end.ensures.value) (let last = c.in-None.ensures.at_end.0 refl in ap (λ k. k +ℤ pos 1) last)) in
    let self_is = ap (all_in_numbers g.T.Element.numbers) c.deref-range-items.ensures.value ∙ c.self.view_is in
    record { canonical = both.0; members = rw (← self_is) both.1 }

pub push_apart-requires : goal.push_apart-requires
push_apart-requires g c = rw c.new.ensures.value (complement_apart _ _ _ _ _ _ c.loop-range.invariant.complement)

pub returns : goal.returns
returns g c =
    let none : drop c.loop-range.range-index c.deref-range-items.result.now ≡ [] = grind (arith, common_steps) in
    let both = up_to_greatest g.T.Element.numbers _ _ c.new.result _ (rw none at c.loop-range.invariant.complement)
    c.new.ensures.range (rw c.new.ensures.value refl) (rw c.new.ensures.value c.max_value.ensures.number) in
    let self_is = ap (all_in_numbers g.T.Element.numbers) c.deref-range-items.ensures.value ∙ c.self.view_is in
    record { canonical = rw c.in_ok-push_apart.ensures both.0; members = rw (← self_is, c.in_ok-push_apart.ensures) both.1 }
