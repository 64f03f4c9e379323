use Rattle.std.proofs.Common.{◌≡◌, [], ◌∷◌, ◌+◌, drop, arith, ap, ◌∙◌}
use Rattle.std.proofs.lemmas.Grind.{common_steps}
use Rattle.range_map.specs.Range.{in_numbers}
use Rattle.range_map.specs.Set.{all_in_numbers}
use Rattle.range_map.specs.Valued.{pairs_in_numbers}
use Rattle.range_map.proofs.DividedLemmas.{valued-push}
use Rattle.range_map.proofs.GrowthLemmas.{in_numbers-push}
use Rattle.range_map.proofs.PartLemmas.{parts_start, parts_step, parts_end, parts_all}
use Rattle.range_map.proofs.pairs.push_parts.Goals as goal

pub loop-range-init : goal.loop-range-init
loop-range-init g c = record {
  valued = c.requires.valued;
  so_far = parts_start g.V.Clone.is_clone _ _ _ _ _ _ c.requires.canonical c.requires.end_from;
}

pub loop-range-preserved : goal.loop-range-preserved
loop-range-preserved g c =
    let numbers = g.T.Element.numbers in
    let i = c.loop-range.range-index in
    let next : drop i c.args.ranges.now ≡ c.range-item.result ∷ drop (i + 1) c.args.ranges.now = grind (arith, common_steps) in
    let both = c.in-Some.ensures in
    record {
      valued = rw c.in_ok-push.ensures.items (valued-push numbers _ _ c.loop-range.invariant.valued both.range);
      so_far = parts_step g.V.Clone.is_clone _ _ _ _ _ _ _ _ _ _ (in_numbers numbers c.range-item.result) (in_numbers numbers c.in-Some.both) c.in_ok-clone.field-0
          (ap (all_in_numbers numbers) next) (ap (pairs_in_numbers numbers) c.in_ok-push.ensures.items ∙ in_numbers-push numbers _ _)
          (λ i. (both.start i, both.end i)) both.range.ordered c.in_ok-clone.ensures.cases c.loop-range.invariant.so_far;
    }

pub returns-in_default-clause-pushed : goal.returns-in_default-clause-pushed
returns-in_default-clause-pushed g c =
    let numbers = g.T.Element.numbers in
    let i = c.loop-range.range-index in
    let next : drop i c.args.ranges.now ≡ c.range-item.result ∷ drop (i + 1) c.args.ranges.now = grind (arith, common_steps) in
    parts_end g.V.Clone.is_clone _ _ _ _ _ _ _ _ _ (in_numbers numbers c.range-item.result) (ap (all_in_numbers numbers) next) c.requires.range.ordered
    c.in_default.ensures.none c.loop-range.invariant.so_far

pub returns-clause-pushed : goal.returns-clause-pushed
returns-clause-pushed g c =
    let numbers = g.T.Element.numbers in
    let none : drop c.loop-range.range-index c.args.ranges.now ≡ [] = grind (arith, common_steps) in
    let no_part = rw none at c.loop-range.invariant.so_far in
    parts_all g.V.Clone.is_clone _ _ _ _ _ _ [] _ Rattle.std.proofs.Common.refl no_part
