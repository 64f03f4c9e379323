use Rattle.std.proofs.Common.{rules, ◌∙◌}
use Rattle.std.proofs.lemmas.Fn.{always_returns_same}
use Rattle.range_map.specs.Range.{in_numbers, place_beside}
use Rattle.range_map.proofs.SearchLemmas.{found_holds}
use Rattle.range_map.proofs.set.RangeSet.contains.Goals as goal

pub returns : goal.returns
returns g c =
    let numbers = g.T.Element.numbers in
    let x = numbers.number c.args.value in
    let searched = c.binary_search_by.ensures in
    let by_place = searched.position (λ r. place_beside x (in_numbers numbers r)) (always_returns_same _ _ _ (λ a r h called. search rules)) in
    c.is_ok.ensures.value ∙ rw (← c.self.view_is, ← c.deref.ensures.value)
    (found_holds (in_numbers numbers) numbers.least numbers.greatest c.deref.result.now x (c.args.value, c.args.value)
    (rw c.deref.ensures.value c.self.invariant.canonical) c.binary_search_by.result searched.bound by_place)
