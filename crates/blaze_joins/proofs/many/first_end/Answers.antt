use Rattle.std.proofs.lemmas.Grind.{common_steps}
use Rattle.std.proofs.Common.{◌≡◌, ◌+◌, [], ◌∷◌, drop, arith, sym, ◌∙◌}
use Rattle.blaze_joins.specs.SideView.{ends_of}
use Rattle.blaze_joins.proofs.SideLemmas.{least_first, least_next, least_end}
use Rattle.blaze_joins.proofs.many.first_end.Goals as goal

pub loop-side-init : goal.loop-side-init
loop-side-init g c =
    let numbers = g.T.Element.numbers in
    rw c.max_value-end.ensures.number record {
      is_value = c.max_value-end.ensures.is_value;
      least = least_first numbers.greatest (ends_of numbers c.args.sides.now);
    }

pub loop-side-preserved : goal.loop-side-preserved
loop-side-preserved g c =
    let numbers = g.T.Element.numbers in
    let i = c.loop-side.side-index in
    let sides : drop i c.args.sides.now ≡ c.side-item.result ∷ drop (i + 1) c.args.sides.now = grind (arith, common_steps) in
    record {
      is_value = c.lesser-end.ensures.is_value;
      least = least_next numbers.greatest _ _ _ (ends_of numbers (drop (i + 1) c.args.sides.now)) c.lesser-end.ensures.either ∙ rw sides at c.loop-side.invariant.least;
    }

pub returns-clause-least : goal.returns-clause-least
returns-clause-least g c =
    let numbers = g.T.Element.numbers in
    let none : drop c.loop-side.side-index c.args.sides.now ≡ [] = grind (arith, common_steps) in
    let all = rw none at c.loop-side.invariant.least in
    sym (least_end numbers.greatest (numbers.number c.loop-side.end) (g.met.T.Element.numbered.high _ c.loop-side.invariant.is_value)) ∙ all
