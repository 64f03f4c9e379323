use Rattle.std.proofs.Common.{◌≡◌, ap, ◌∙◌, ◌∷◌}
use Rattle.std.specs.Prelude.{ℤ, int_lt}
use Rattle.std.specs.List.{filter}
use Rattle.std.specs.Ordering.{int_cmp}
use Rattle.ordered_lists.specs.Lists.{has}
use Rattle.cut_points.specs.Cuts.{IsAscending, cuts_alone}
use Rattle.set_document.specs.Numbers.{least, greatest}
use Rattle.set_document.proofs.NumberLemmas.{least_is, greatest_is, numbers_are, ranges_are}
use Rattle.set_document.proofs.RunLemmas.{visits_walk}
use Rattle.set_document.proofs.pass.numbers_to_visit.Goals as goal

pub returns : goal.returns
returns c =
    let cuts = c.in_ok-cuts.cuts.items in
    let ranges = c.args.ranges.now in
    let ascending : IsAscending least greatest cuts = rw (numbers_are cuts, least_is, greatest_is) at c.in_ok-cuts.ensures.ascending in
    let members : (x : ℤ) → has int_cmp cuts x ≡ has int_cmp (cuts_alone greatest ranges) x =
    λ x. rw (numbers_are cuts, ranges_are ranges, greatest_is) at (c.in_ok-cuts.ensures.members x) in
    let slice : c.as_slice.result.now ≡ cuts = c.as_slice.ensures.value ∙ c.iter.ensures.rest in
    let visited = c.in_ok-visited.ensures ∙ ap (λ l. least ∷ filter (λ x. int_lt least x) l) slice in
    visits_walk cuts (cuts_alone greatest ranges) c.in_ok-visited.visited.items ascending members visited
