use Rattle.std.proofs.Common.{drop, length, ap, sym, ◌∙◌}
use Rattle.std.proofs.lemmas.List.{drop-map, length-map}
use Rattle.number_line.proofs.PieceLemmas.{ends_from-lower}
use Rattle.range_map.specs.Valued.{pair_in_numbers}
use Rattle.blaze_joins.proofs.PlaceLemmas.{left_behind}
use Rattle.blaze_joins.proofs.map.RangeMapBlaze.side_behind.Goals as goal

pub place_behind-at-requires : goal.place_behind-at-requires
place_behind-at-requires g c =
    let is = c.as_slice.ensures.list ∙ c.self.view_is in
    let long = ap length (sym is) ∙ length-map c.as_slice.result.now (pair_in_numbers g.T.Element.numbers) in
    record { within = rw (← long) c.requires.side.2.at.within }

pub side_from-requires : goal.side_from-requires
side_from-requires g c =
    let is = c.as_slice.ensures.list ∙ c.self.view_is in
    let numbers = g.T.Element.numbers in
    let pair = pair_in_numbers numbers in
    let items = c.as_slice.result.now in
    let before = ap (λ t. drop c.args.side.at t) (sym is) ∙ drop-map pair c.args.side.at items in
    let rest = ap (λ t. drop c.place_behind-at.result t) (sym is) ∙ drop-map pair c.place_behind-at.result items in
    let long = ap length (sym is) ∙ length-map items pair in
    let ends = rw before at (ends_from-lower _ _ _ c.requires.end c.requires.side.2.held.reaches) in
    rw c.requires.next record {
      within = rw (← long) at c.place_behind-at.ensures.within;
      left = rw (rest, c.place_behind-at.ensures.pairs) (left_behind g.V.PartialEq.eq numbers.least numbers.greatest c.args.self.now c.requires.side.0 _ _ c.requires.side.1 ends (rw before at c.requires.side.2.at.left));
    }
