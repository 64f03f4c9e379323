use Rattle.std.proofs.Common.{◌≡◌, [], ◌∷◌, ◌+◌, drop, arith, ap, refl, ◌∙◌}
use Rattle.std.proofs.lemmas.Grind.{common_steps}
use Rattle.range_map.specs.Valued.{pairs_in_numbers, pair_in_numbers}
use Rattle.range_map.proofs.DividedLemmas.{valued-push}
use Rattle.range_map.proofs.GrowthLemmas.{in_numbers-push}
use Rattle.number_line.specs.Parts.{IsPairClone}
use Rattle.number_line.proofs.ZippedLemmas.{zipped_start, zipped_step, zipped_end}
use Rattle.range_map.proofs.pairs.clones_of_pairs.Goals as goal

pub loop-pair-init : goal.loop-pair-init
loop-pair-init g c = rw c.in_ok-copy.ensures.items record {
  ranges = tt;
  made = zipped_start (IsPairClone g.V.Clone.is_clone) (pairs_in_numbers g.T.Element.numbers c.args.pairs.now);
}

pub loop-pair-preserved : goal.loop-pair-preserved
loop-pair-preserved g c =
    let numbers = g.T.Element.numbers in
    let i = c.loop-pair.pair-index in
    let e : drop i c.args.pairs.now ≡ c.pair-item.result ∷ drop (i + 1) c.args.pairs.now = grind (arith, common_steps) in
    record {
      ranges = rw c.in_ok-push.ensures.items (valued-push numbers _ _ c.loop-pair.invariant.ranges c.start.ensures.range);
      made = zipped_step (IsPairClone g.V.Clone.is_clone) _ _ _ _ _ (pair_in_numbers numbers c.pair-item.result) _
          (ap (pairs_in_numbers numbers) c.in_ok-push.ensures.items ∙ in_numbers-push numbers _ _) (ap (pairs_in_numbers numbers) e)
          (refl, c.in_ok-clone.ensures.cases) c.loop-pair.invariant.made;
    }

pub returns-clause-clones : goal.returns-clause-clones
returns-clause-clones g c =
    let none : drop c.loop-pair.pair-index c.args.pairs.now ≡ [] = grind (arith, common_steps) in
    zipped_end (IsPairClone g.V.Clone.is_clone) _ _ _ (ap (pairs_in_numbers g.T.Element.numbers) none) c.loop-pair.invariant.made
