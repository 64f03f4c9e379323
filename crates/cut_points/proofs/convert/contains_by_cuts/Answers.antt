use Rattle.std.proofs.Common.{rules, ◌≡◌, ◌∙◌}
use Rattle.std.specs.Prelude.{int_le}
use Rattle.std.proofs.lemmas.Fn.{always_returns_same}
use Rattle.cut_points.proofs.ValueLemmas.{sorted_ascends}
use Rattle.cut_points.proofs.PlaceLemmas.{parted, counted}
use Rattle.cut_points.proofs.convert.contains_by_cuts.Goals as goal

pub returns : goal.returns
returns g c =
    let n = g.T.Element.numbers in
    let k = n.number c.args.x in
    let items : c.as_slice-list.result.now ≡ c.args.cuts.now.items = c.as_slice-list.ensures.value ∙ c.iter.ensures.rest in
    let ascends = sorted_ascends g.T.Ord.cmp n g.met.T.Element.numbered c.as_slice-list.result.now c.are_values.ensures (rw items c.iter.ensures.ascending) in
    let point = c.partition_point.ensures.partitioned (λ y. int_le (n.number y) k) (always_returns_same _ _ _ (λ a r h called. search rules))
    (parted n n.least n.greatest k c.as_slice-list.result.now ascends) in
    rw (← items) (counted n k c.as_slice-list.result.now c.partition_point.result c.partition_point.ensures.bound point)
