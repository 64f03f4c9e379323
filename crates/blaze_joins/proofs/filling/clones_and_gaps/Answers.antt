use Rattle.std.proofs.lemmas.Grind.{common_steps}
use Rattle.std.proofs.Common.{◌≡◌, [], ◌∷◌, ◌+◌, drop, arith, refl, ap, sym, ◌∙◌}
use Rattle.std.specs.Prelude.{pos, ◌+ℤ◌}
use Rattle.std.proofs.lemmas.Int.{ints}
use Rattle.number_line.specs.Parts.{IsPairClone}
use Rattle.number_line.proofs.ZippedLemmas.{zipped_start}
use Rattle.range_map.specs.Valued.{pairs_in_numbers, pair_in_numbers}
use Rattle.range_map.proofs.DividedLemmas.{valued-push}
use Rattle.range_map.proofs.GrowthLemmas.{in_numbers-push}
use Rattle.blaze_joins.specs.Filled.{IsOptionClone, with_gaps}
use Rattle.blaze_joins.proofs.FillLemmas.{pair_filled, end_filled, full_filled}
use Rattle.blaze_joins.proofs.filling.clones_and_gaps.Goals as goal

pub loop-pair-init : goal.loop-pair-init
loop-pair-init g c =
    let numbers = g.T.Element.numbers in
    rw (c.in_ok-filled.ensures.items, c.min_value-start.ensures.number) record {
      is_value = c.min_value-start.ensures.is_value;
      canonical = c.requires;
      ranges = tt;
      made = zipped_start (IsPairClone (IsOptionClone g.V.Clone.is_clone)) (with_gaps numbers.least numbers.greatest (pairs_in_numbers numbers c.args.pairs.now));
    }

pub loop-pair-preserved : goal.loop-pair-preserved
loop-pair-preserved g c =
    let numbers = g.T.Element.numbers in
    let pair = pair_in_numbers numbers c.pair-item.result in
    let i = c.loop-pair.pair-index in
    let next : drop i c.args.pairs.now ≡ c.pair-item.result ∷ drop (i + 1) c.args.pairs.now = grind (arith, common_steps) in
    let is = ap (pairs_in_numbers numbers) next in
    let above : numbers.number c.in-Some.next ≡ numbers.number c.pair-item.result.0.1 +ℤ pos 1 =
    c.in-Some.ensures.next.1 ∙ ap (λ x. numbers.number x +ℤ pos 1) c.end.ensures.value in
    let canonical = rw is at c.loop-pair.invariant.canonical in
    record {
      is_value = c.in-Some.ensures.next.0;
      canonical = rw above canonical.4;
      ranges = rw c.in_ok-push.ensures.items (valued-push numbers _ _ c.in_ok-push_gap.ensures.ranges c.end.ensures.range);
      made = pair_filled g.V.Clone.is_clone numbers.greatest _ _ _ _ pair _ _ _ _ _ is above c.in_ok-push_gap.ensures.list
          (ap (pairs_in_numbers numbers) c.in_ok-push.ensures.items ∙ in_numbers-push numbers _ _) c.in_ok-clone.ensures.cases c.loop-pair.invariant.made;
    }

pub returns-in-None-clause-ranges : goal.returns-in-None-clause-ranges
returns-in-None-clause-ranges g c =
    rw c.in_ok-push.ensures.items (valued-push g.T.Element.numbers _ _ c.in_ok-push_gap.ensures.ranges c.end.ensures.range)

pub returns-in-None-clause-clones : goal.returns-in-None-clause-clones
returns-in-None-clause-clones g c =
    let numbers = g.T.Element.numbers in
    let pair = pair_in_numbers numbers c.pair-item.result in
    let i = c.loop-pair.pair-index in
    let next : drop i c.args.pairs.now ≡ c.pair-item.result ∷ drop (i + 1) c.args.pairs.now = grind (arith, common_steps) in
    let is = ap (pairs_in_numbers numbers) next in
    let last : numbers.greatest +ℤ pos 1 ≡ numbers.number c.pair-item.result.0.1 +ℤ pos 1 =
    ap (λ k. k +ℤ pos 1) (sym (c.in-None.ensures.at_end.0 refl) ∙ ap numbers.number c.end.ensures.value) in
    let canonical = rw is at c.loop-pair.invariant.canonical in
    let made = pair_filled g.V.Clone.is_clone numbers.greatest _ (numbers.greatest +ℤ pos 1) _ _ pair _ _ _ _ _ is last c.in_ok-push_gap.ensures.list
    (ap (pairs_in_numbers numbers) c.in_ok-push.ensures.items ∙ in_numbers-push numbers _ _) c.in_ok-clone.ensures.cases c.loop-pair.invariant.made in
    full_filled g.V.Clone.is_clone g.V.PartialEq.eq numbers.greatest (numbers.greatest +ℤ pos 1) _ _ _ (rw last canonical.4) (omega (arith, ints)) made

pub returns-clause-ranges : goal.returns-clause-ranges
returns-clause-ranges g c =
    rw c.in_ok-push-2.ensures.items (valued-push g.T.Element.numbers _ _ c.loop-pair.invariant.ranges c.new.ensures.range)

pub returns-clause-clones : goal.returns-clause-clones
returns-clause-clones g c =
    let numbers = g.T.Element.numbers in
    let left : drop c.loop-pair.pair-index c.args.pairs.now ≡ [] = grind (arith, common_steps) in
    let put = ap (pairs_in_numbers numbers) c.in_ok-push-2.ensures.items ∙ in_numbers-push numbers _ _ in
    end_filled g.V.Clone.is_clone numbers.greatest _ _ _ _ _ (ap (pairs_in_numbers numbers) left) c.in_type.ensures.high
    (rw (c.new.ensures.value, c.max_value.ensures.number) at put) c.loop-pair.invariant.made
