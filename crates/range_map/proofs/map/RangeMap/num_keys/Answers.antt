use Rattle.std.proofs.Common.{◌≡◌, [], ◌∷◌, ◌+◌, ◌-◌, ◌^◌, drop, length, arith, ap, sym, ◌∙◌}
use Rattle.std.specs.Prelude.{min}
use Rattle.std.proofs.Math.Nat.{min-le_right}
use Rattle.std.proofs.lemmas.Grind.{common_steps}
use Rattle.number_line.specs.Members.{size, members}
use Rattle.number_line.proofs.MemberLemmas.{length-members, count_on}
use Rattle.range_map.specs.Range.{in_numbers}
use Rattle.range_map.specs.Bounds.{ranges_of}
use Rattle.range_map.specs.Valued.{pairs_in_numbers}
use Rattle.range_map.proofs.map.RangeMap.num_keys.Goals as goal

pub loop-pair-preserved : goal.loop-pair-preserved
loop-pair-preserved g c =
    let numbers = g.T.Element.numbers in
    let top = 2 ^ 64 - 1 in
    let i = c.loop-pair.pair-index in
    let items = c.deref-pair-items.result.now in
    let next : drop i items ≡ c.pair-item.result ∷ drop (i + 1) items = grind (arith, common_steps) in
    let r = in_numbers numbers c.pair-item.result.0 in
    let rest = ranges_of (pairs_in_numbers numbers (drop (i + 1) items)) in
    let left : size r + length (members rest) ≡ length (members (ranges_of (pairs_in_numbers numbers (drop i items)))) =
    sym (ap (λ l. length (members (ranges_of (pairs_in_numbers numbers l)))) next ∙ length-members r rest) in
    let on = count_on top c.loop-pair.count (size r) (length (members rest)) in
    record {
      fits = rw c.saturating_add-count.ensures (min-le_right _ _);
      counted = rw (c.saturating_add-count.ensures, c.size_of.ensures)
          (on ∙ (ap (λ n. min (c.loop-pair.count + n) top) left ∙ c.loop-pair.invariant.counted));
    }

pub returns : goal.returns
returns g c =
    let numbers = g.T.Element.numbers in
    let top = 2 ^ 64 - 1 in
    let i = c.loop-pair.pair-index in
    let items = c.deref-pair-items.result.now in
    let none : drop i items ≡ [] = grind (arith, common_steps) in
    let self_is = ap (pairs_in_numbers numbers) c.deref-pair-items.ensures.value ∙ c.self.view_is in
    let fits = c.loop-pair.invariant.fits in
    let whole : min (c.loop-pair.count + 0) top ≡ min (length (members (ranges_of (pairs_in_numbers numbers items)))) top = rw none at c.loop-pair.invariant.counted in
    let same : c.loop-pair.count ≡ min (c.loop-pair.count + 0) top = grind (arith) in
    rw (← self_is) (same ∙ whole)
