use Rattle.std.proofs.Common.{rules}
use Rattle.std.specs.Prelude.{int_lt}
use Rattle.std.proofs.lemmas.Fn.{always_returns_same}
use Rattle.set_document.specs.Numbers.{least, greatest}
use Rattle.set_document.proofs.CompileLemmas.{parted_below, tells_from}
use Rattle.set_document.proofs.compile.place_from.Goals as goal

pub returns : goal.returns
returns c =
    let x = c.args.x in
    let point = c.partition_point.ensures.partitioned (λ y. int_lt y x) (always_returns_same _ _ _ (λ a r h called. search rules)) (parted_below least greatest x c.args.visited.now c.requires) in
    tells_from x c.args.visited.now c.partition_point.result point
