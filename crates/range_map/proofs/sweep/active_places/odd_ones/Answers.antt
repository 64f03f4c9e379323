use Rattle.std.proofs.lemmas.Grind.{common_steps}
use Rattle.std.proofs.Common.{◌≡◌, [], ◌∷◌, ◌+◌, arith, drop}
use Rattle.std.specs.List.{slice_index_or}
use Rattle.range_map.proofs.OddLemmas.{kept_start, kept_below, kept_step, kept_end}
use Rattle.range_map.proofs.sweep.active_places.odd_ones.Goals as goal

pub loop-place-init : goal.loop-place-init
loop-place-init c = kept_start c.args.sorted.now _ c.clear.ensures.items c.requires

pub toggle-requires : goal.toggle-requires
toggle-requires c =
    let all = c.args.sorted.now in
    let i = c.loop-place.place-index in
    let next : drop i all ≡ slice_index_or all i 0 ∷ drop (i + 1) all = grind (arith, common_steps) in
    kept_below all _ _ _ _ next c.loop-place.invariant

pub loop-place-preserved : goal.loop-place-preserved
loop-place-preserved c =
    let all = c.args.sorted.now in
    let i = c.loop-place.place-index in
    let next : drop i all ≡ slice_index_or all i 0 ∷ drop (i + 1) all = grind (arith, common_steps) in
    kept_step all _ _ _ _ next c.loop-place.invariant _ c.in_ok-toggle.ensures.ascending c.in_ok-toggle.ensures.toggled

pub returns : goal.returns
returns c =
    let none : drop c.loop-place.place-index c.args.sorted.now ≡ [] = grind (arith, common_steps) in
    let both = kept_end c.args.sorted.now _ _ none c.loop-place.invariant in
    record { ascending = both.0; odd = both.1 }
