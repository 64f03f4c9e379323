use Rattle.std.proofs.Common.{◌≡◌, ◌∷◌, drop, ap, ◌∙◌}
use Rattle.std.specs.Prelude.{true}
use Rattle.number_line.specs.Ranges.{IsCanonical}
use Rattle.range_map.specs.Range.{in_numbers}
use Rattle.range_map.specs.Set.{all_in_numbers}
use Rattle.cut_points.specs.Cuts.{cuts_left}
use Rattle.cut_points.proofs.LeftLemmas.{end_passed, others_canonical}
use Rattle.cut_points.proofs.cuts_left.CutsLeft.pass.Goals as goal

pub invariant_of-self-in-Some : goal.invariant_of-self-in-Some
invariant_of-self-in-Some g c =
    let n = g.T.Element.numbers in
    let range = in_numbers n c.in-Some.field-0-0.now in
    let rest = all_in_numbers n c.in-Some.others.now in
    let canonical : IsCanonical n.least n.greatest (range ∷ rest) = rw c.in-Some.ensures.cases.0 at c.self.invariant in
    others_canonical n.least n.greatest range rest canonical

pub returns-in-Some : goal.returns-in-Some
returns-in-Some g c =
    let n = g.T.Element.numbers in
    let range = in_numbers n c.in-Some.field-0-0.now in
    let rest = all_in_numbers n c.in-Some.others.now in
    let canonical : IsCanonical n.least n.greatest (range ∷ rest) = rw c.in-Some.ensures.cases.0 at c.self.invariant in
    let begun : c.self.inside.begun ≡ true = c.if-not-self.false in
    let shown : cuts_left n.greatest true (range ∷ rest) ≡ c.args.self.now = rw (begun, c.in-Some.ensures.cases.0) at c.self.view_is in
    end_passed n.least n.greatest range rest canonical ∙ ap (drop 1) shown
