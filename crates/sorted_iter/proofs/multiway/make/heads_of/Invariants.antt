use Rattle.std.proofs.Common.{All}
use Rattle.sorted_iter.specs.MultiwayHeads.{can_go}
use Rattle.sorted_iter.specs.MultiwaySteps.{Started}
use Rattle.sorted_iter.proofs.multiway.make.heads_of.Given as goal

abbrev pub invariant-loop-it : goal.invariant-loop-it
invariant-loop-it g l =
    (goal.iterator-loop-it g).can_next l.it-iterator
    × (goal.iterator-loop-it g).is_finite l.it-iterator
    × All (can_go g.I.Iterator.can_next g.I.Iterator.remaining) l.heads.items
    × Started g.I.Iterator.next_gives l.yielded l.heads.items
