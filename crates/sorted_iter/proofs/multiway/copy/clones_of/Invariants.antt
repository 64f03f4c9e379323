use Rattle.std.proofs.Common.{take}
use Rattle.std.specs.List.{AllZip}
use Rattle.sorted_iter.specs.MultiwayClones.{IsHeadClone}
use Rattle.sorted_iter.proofs.multiway.copy.clones_of.Given as goal

abbrev pub invariant-loop-head : goal.invariant-loop-head
invariant-loop-head g l = AllZip (IsHeadClone g.I.Clone.is_clone g.I.Item.Clone.is_clone) (take l.head-index l.head-items) l.copies.items
