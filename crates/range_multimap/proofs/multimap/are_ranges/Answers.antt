use Rattle.std.proofs.Common.{◌≡◌, [], ◌∷◌, ◌++◌, ◌+◌, take, arith}
use Rattle.std.proofs.lemmas.Grind.{common_steps}
use Rattle.range_map.proofs.DividedLemmas.{valued-push}
use Rattle.range_multimap.proofs.multimap.are_ranges.Goals as goal

pub loop-pair-preserved : goal.loop-pair-preserved
loop-pair-preserved g c =
    let i = c.loop-pair.pair-index in
    let e : take (i + 1) c.args.pairs.now ≡ take i c.args.pairs.now ++ c.pair-item.result ∷ [] = grind (arith, common_steps) in
    rw e (valued-push g.T.Element.numbers _ _ c.loop-pair.invariant c.start.ensures.range)

pub returns : goal.returns
returns g c =
    let e : take c.loop-pair.pair-index c.args.pairs.now ≡ c.args.pairs.now = grind (arith, common_steps) in
    rw e at c.loop-pair.invariant
