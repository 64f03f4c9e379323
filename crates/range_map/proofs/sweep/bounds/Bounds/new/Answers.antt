use Rattle.std.proofs.Common.{rules, ◌≡◌, [], ◌∷◌, ◌+◌, drop, arith, ap, add-one}
use Rattle.std.proofs.lemmas.Cmp.{int_cmp_total}
use Rattle.std.proofs.lemmas.Grind.{common_steps}
use Rattle.std.proofs.lemmas.List.MinMax.{ranks_by}
use Rattle.std.proofs.lemmas.List.Sorted.{answers_always}
use Rattle.range_map.specs.Valued.{pairs_in_numbers}
use Rattle.range_map.specs.Bounds.{ranges_of}
use Rattle.range_map.proofs.BoundLemmas.{bounds_step, bounds_sorted, values_permuted, sorted_do_not_fall, ByNumber}
use Rattle.range_map.proofs.sweep.bounds.Bounds.new.Goals as goal

pub loop-place-preserved : goal.loop-place-preserved
loop-place-preserved g c =
    let i = c.loop-place.place in
    let e : drop i c.args.pairs.now ≡ c.index-pairs-place.result ∷ drop (i + 1) c.args.pairs.now = grind (arith, common_steps) in
    record {
      values = c.in_ok-push_bounds.ensures.values;
      bounds = bounds_step _ i (i + 1) _ _ _ _ _ _ (add-one i) (ap (λ left. ranges_of (pairs_in_numbers g.T.Element.numbers left)) e) c.in_ok-push_bounds.ensures.pushed c.loop-place.invariant.bounds;
    }

pub invariant_of-result : goal.invariant_of-result
invariant_of-result g c =
    let numbers = g.T.Element.numbers in
    sorted_do_not_fall numbers g.T.Ord.cmp g.met.T.Element.numbered _ (values_permuted numbers _ _ c.sort_unstable_by.ensures.permutation c.loop-place.invariant.values)
    (c.sort_unstable_by.ensures.sorted (ByNumber numbers) (ranks_by int_cmp_total (λ bound. numbers.number bound.at))
    (answers_always _ _ _ (λ f a r f' called. search rules)))

pub returns : goal.returns
returns g c =
    let none : drop c.loop-place.place c.args.pairs.now ≡ [] = grind (arith, common_steps) in
    bounds_sorted g.T.Element.numbers _ _ _ _ _ (ap (λ left. ranges_of (pairs_in_numbers g.T.Element.numbers left)) none)
    c.sort_unstable_by.ensures.permutation c.loop-place.invariant.bounds
