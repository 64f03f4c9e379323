use Rattle.std.proofs.lemmas.Iterator.{items_from_drains}
use Rattle.std.proofs.lemmas.Iterator.Consumers.{YieldsList-from_first}
use Rattle.range_map.specs.Range.{in_numbers}
use Rattle.range_map_tests.proofs.callers.collected.Goals as goal

pub returns : goal.returns
returns g c =
    let ran = c.in_ok-collect.ensures.ran in
    rw ran.2.0 (items_from_drains ran.0 ran.1 (YieldsList-from_first (in_numbers g.T.Element.numbers) (λ left. left) c.args.set.now c.ranges-2.ensures.list))
