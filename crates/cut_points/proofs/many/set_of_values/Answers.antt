use Rattle.std.proofs.Common.{◌≡◌, ◌+◌, ◌∷◌, drop, arith, sym, append_assoc}
use Rattle.std.proofs.lemmas.Grind.{common_steps}
use Rattle.range_map.specs.Sweep.{numbers_of}
use Rattle.cut_points.proofs.PlaceLemmas.{ascending_front}
use Rattle.cut_points.proofs.many.set_of_values.Goals as goal

pub push_cut-requires-clause-ascending : goal.push_cut-requires-clause-ascending
push_cut-requires-clause-ascending g c =
    let n = g.T.Element.numbers in
    let i = c.loop-value.value-index in
    let values = c.args.values.now in
    let e : drop i values ≡ c.value-item.result ∷ drop (i + 1) values = grind (arith, common_steps) in
    let same = rw e at c.loop-value.invariant.same in
    let whole = rw (sym same) at c.requires in
    ascending_front n.least n.greatest _ (numbers_of n (drop (i + 1) values)) (rw (append_assoc) whole)
