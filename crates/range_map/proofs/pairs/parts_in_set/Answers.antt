use Rattle.std.proofs.Common.{◌≡◌, [], ◌∷◌, ◌+◌, drop, arith, ap, sym, ◌∙◌}
use Rattle.std.proofs.lemmas.Grind.{common_steps}
use Rattle.std.proofs.lemmas.Int.{ints}
use Rattle.number_line.specs.Parts.{parts, parts_of_pairs, IsPairClone}
use Rattle.number_line.proofs.ZippedLemmas.{zipped_start, zipped_end}
use Rattle.range_map.specs.Merging.{ending_from}
use Rattle.range_map.specs.Set.{all_in_numbers}
use Rattle.range_map.specs.Valued.{pairs_in_numbers, pair_in_numbers}
use Rattle.range_map.proofs.EndLemmas.{ending_all, ending_canonical, ending_end, ending_parts}
use Rattle.range_map.proofs.PartLemmas.{pairs_step}
use Rattle.range_map.proofs.pairs.parts_in_set.Goals as goal

pub loop-pair-init : goal.loop-pair-init
loop-pair-init g c =
    let numbers = g.T.Element.numbers in
    let whole = ending_all numbers.least numbers.least numbers.greatest c.args.set.now (omega (arith, ints)) c.as_slice-all.ensures.canonical in
    rw c.in_ok-made.ensures.items record {
      valued = tt;
      so_far = zipped_start (IsPairClone g.V.Clone.is_clone) (parts_of_pairs (pairs_in_numbers numbers c.args.pairs.now) c.args.set.now);
      from = rw c.min_value-last.ensures.number (c.as_slice-all.ensures.list ∙ sym whole);
    }

pub push_parts-requires-clause-canonical : goal.push_parts-requires-clause-canonical
push_parts-requires-clause-canonical g c =
    let numbers = g.T.Element.numbers in
    let n = numbers.number c.start-start.result in
    rw (c.ranges_from-rest.ensures, c.as_slice-all.ensures.list) (ending_canonical n numbers.least numbers.greatest c.args.set.now c.as_slice-all.ensures.canonical)

pub push_parts-requires-clause-end_from : goal.push_parts-requires-clause-end_from
push_parts-requires-clause-end_from g c =
    let n = g.T.Element.numbers.number c.start-start.result in
    rw (c.ranges_from-rest.ensures, c.as_slice-all.ensures.list, ← c.start-start.ensures.value) (ending_end n c.args.set.now)

pub loop-pair-preserved : goal.loop-pair-preserved
loop-pair-preserved g c =
    let numbers = g.T.Element.numbers in
    let n = numbers.number c.start-start.result in
    let i = c.loop-pair.pair-index in
    let next : drop i c.args.pairs.now ≡ c.pair-item.result ∷ drop (i + 1) c.args.pairs.now = grind (arith, common_steps) in
    let pair = pair_in_numbers numbers c.pair-item.result in
    let rest = all_in_numbers numbers c.ranges_from-rest.result.now in
    let left : rest ≡ ending_from n c.args.set.now = c.ranges_from-rest.ensures ∙ ap (ending_from n) c.as_slice-all.ensures.list in
    let same : parts pair.0 rest ≡ parts pair.0 c.args.set.now = ap (parts pair.0) left ∙ ending_parts n pair.0 c.args.set.now (rw c.start-start.ensures.value (omega (arith, ints))) in
    record {
      valued = c.in_ok-push_parts.ensures.valued;
      so_far = pairs_step g.V.Clone.is_clone _ _ _ _ _ pair c.args.set.now rest (ap (pairs_in_numbers numbers) next) same c.in_ok-push_parts.ensures.pushed c.loop-pair.invariant.so_far;
      from = left;
    }

pub returns-clause-parts : goal.returns-clause-parts
returns-clause-parts g c =
    let none : drop c.loop-pair.pair-index c.args.pairs.now ≡ [] = grind (arith, common_steps) in
    zipped_end (IsPairClone g.V.Clone.is_clone) _ _ _ (ap (λ l. parts_of_pairs (pairs_in_numbers g.T.Element.numbers l) c.args.set.now) none) c.loop-pair.invariant.so_far
