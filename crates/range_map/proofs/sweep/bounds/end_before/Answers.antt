use Rattle.std.proofs.Common.{[], ◌∷◌, arith}
use Rattle.std.specs.Prelude.{map, pos, ◌+ℤ◌}
use Rattle.std.proofs.lemmas.Int.{ints}
use Rattle.std.proofs.lemmas.List.{nil_from_length}
use Rattle.range_map.specs.Sweep.{DoNotFallFrom}
use Rattle.range_map.proofs.BoundLemmas.{all_behind}
use Rattle.range_map.proofs.sweep.bounds.end_before.Goals as goal

pub value_before-requires : goal.value_before-requires
value_before-requires g c = rw c.in-Some.ensures.cases.0 at c.requires.behind

pub returns-in-None-clause-behind : goal.returns-in-None-clause-behind
returns-in-None-clause-behind g c = rw (nil_from_length _ c.in-None.ensures.cases) (all_behind g.T.Element.numbers _ (g.T.Element.numbers.greatest +ℤ pos 1) [] tt (omega (arith, ints, c.max_value.ensures.number)))

pub returns-in-Some-clause-order : goal.returns-in-Some-clause-order
returns-in-Some-clause-order g c =
    let behind = rw c.in-Some.ensures.cases.0 at c.requires.behind in
    omega (arith, ints, c.value_before.ensures)

pub returns-in-Some-clause-high : goal.returns-in-Some-clause-high
returns-in-Some-clause-high g c =
    let numbers = g.T.Element.numbers in
    let d : DoNotFallFrom numbers numbers.least (map (λ b. b.at) (c.in-Some.bound.now ∷ _)) = rw c.in-Some.ensures.cases.0 at c.requires.in_order in
    let high = d.2 in
    omega (arith, ints, c.value_before.ensures)

pub returns-in-Some-clause-behind : goal.returns-in-Some-clause-behind
returns-in-Some-clause-behind g c =
    let numbers = g.T.Element.numbers in
    let bound = c.in-Some.bound.now in
    let d : DoNotFallFrom numbers numbers.least (map (λ b. b.at) (bound ∷ _)) = rw c.in-Some.ensures.cases.0 at c.requires.in_order in
    rw c.in-Some.ensures.cases.0 (all_behind numbers (numbers.number c.value_before.result) (numbers.number bound.at) (bound ∷ _) (d.0, omega (arith, ints), d.2, d.3) (omega (arith, ints, c.value_before.ensures)))
