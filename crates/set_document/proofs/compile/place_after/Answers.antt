use Rattle.std.proofs.Common.{rules}
use Rattle.std.specs.Prelude.{int_le}
use Rattle.std.proofs.lemmas.Fn.{always_returns_same}
use Rattle.set_document.specs.Numbers.{least, greatest}
use Rattle.set_document.proofs.CompileLemmas.{parted_at_most, tells_after}
use Rattle.set_document.proofs.compile.place_after.Goals as goal

pub returns : goal.returns
returns c =
    let x = c.args.x in
    let point = c.partition_point.ensures.partitioned (λ y. int_le y x) (always_returns_same _ _ _ (λ a r h called. search rules)) (parted_at_most least greatest x c.args.visited.now c.requires) in
    tells_after x c.args.visited.now c.partition_point.result point
