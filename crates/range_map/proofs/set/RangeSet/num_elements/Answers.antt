use Rattle.std.proofs.Common.{◌≡◌, [], ◌∷◌, ◌+◌, ◌-◌, ◌^◌, drop, length, arith, ap, sym, ◌∙◌}
use Rattle.std.specs.Prelude.{min}
use Rattle.std.proofs.Math.Nat.{min-le_right}
use Rattle.std.proofs.lemmas.Grind.{common_steps}
use Rattle.number_line.specs.Members.{size, members}
use Rattle.number_line.proofs.MemberLemmas.{length-members, count_on}
use Rattle.range_map.specs.Range.{in_numbers}
use Rattle.range_map.specs.Set.{all_in_numbers}
use Rattle.range_map.proofs.set.RangeSet.num_elements.Goals as goal

pub loop-range-preserved : goal.loop-range-preserved
loop-range-preserved g c =
    let numbers = g.T.Element.numbers in
    let top = 2 ^ 64 - 1 in
    let i = c.loop-range.range-index in
    let items = c.deref-range-items.result.now in
    let next : drop i items ≡ c.range-item.result ∷ drop (i + 1) items = grind (arith, common_steps) in
    let r = in_numbers numbers c.range-item.result in
    let rest = all_in_numbers numbers (drop (i + 1) items) in
    let left : size r + length (members rest) ≡ length (members (all_in_numbers numbers (drop i items))) =
    sym (ap (λ l. length (members (all_in_numbers numbers l))) next ∙ length-members r rest) in
    let on = count_on top c.loop-range.count (size r) (length (members rest)) in
    record {
      fits = rw c.saturating_add-count.ensures (min-le_right _ _);
      counted = rw (c.saturating_add-count.ensures, c.size_of.ensures)
          (on ∙ (ap (λ n. min (c.loop-range.count + n) top) left ∙ c.loop-range.invariant.counted));
    }

pub returns : goal.returns
returns g c =
    let numbers = g.T.Element.numbers in
    let top = 2 ^ 64 - 1 in
    let i = c.loop-range.range-index in
    let items = c.deref-range-items.result.now in
    let none : drop i items ≡ [] = grind (arith, common_steps) in
    let self_is = ap (all_in_numbers numbers) c.deref-range-items.ensures.value ∙ c.self.view_is in
    let fits = c.loop-range.invariant.fits in
    let whole : min (c.loop-range.count + 0) top ≡ min (length (members (all_in_numbers numbers items))) top = rw none at c.loop-range.invariant.counted in
    let same : c.loop-range.count ≡ min (c.loop-range.count + 0) top = grind (arith) in
    rw (← self_is) (same ∙ whole)
