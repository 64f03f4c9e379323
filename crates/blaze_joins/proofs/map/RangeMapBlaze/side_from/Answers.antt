use Rattle.std.proofs.Common.{drop, ap, sym, ◌∙◌}
use Rattle.std.proofs.lemmas.List.{drop-map}
use Rattle.range_map.specs.Valued.{pair_in_numbers}
use Rattle.blaze_joins.proofs.map.RangeMapBlaze.side_from.Goals as goal

pub held_from-held-requires-clause-canonical : goal.held_from-held-requires-clause-canonical
held_from-held-requires-clause-canonical g c =
    let is = c.as_slice.ensures.list ∙ c.self.view_is in
    let rest = ap (λ t. drop c.args.at t) (sym is) ∙ drop-map (pair_in_numbers g.T.Element.numbers) c.args.at c.as_slice.result.now in
    rw (← rest) c.requires.left.canonical

pub held_from-held-requires-clause-ends : goal.held_from-held-requires-clause-ends
held_from-held-requires-clause-ends g c =
    let is = c.as_slice.ensures.list ∙ c.self.view_is in
    let rest = ap (λ t. drop c.args.at t) (sym is) ∙ drop-map (pair_in_numbers g.T.Element.numbers) c.args.at c.as_slice.result.now in
    rw (← rest) c.requires.left.ends

pub returns : goal.returns
returns g c =
    let is = c.as_slice.ensures.list ∙ c.self.view_is in
    let rest = ap (λ t. drop c.args.at t) (sym is) ∙ drop-map (pair_in_numbers g.T.Element.numbers) c.args.at c.as_slice.result.now in
    record {
      at = c.requires;
      is_value = c.held_from-held.ensures.is_value;
      there = rw is at c.held_from-held.ensures.there;
      held = rw (← rest, is) at c.held_from-held.ensures.held;
    }
