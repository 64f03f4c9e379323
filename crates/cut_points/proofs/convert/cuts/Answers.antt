use Rattle.range_map.specs.Range.{in_numbers}
use Rattle.range_map.specs.Sweep.{numbers_of}
use Rattle.cut_points.proofs.CutLemmas.{cuts_ascend}
use Rattle.cut_points.proofs.PlaceLemmas.{next_ascends}
use Rattle.cut_points.proofs.convert.cuts.Goals as goal

pub push_cuts-requires-clause-ascending : goal.push_cuts-requires-clause-ascending
push_cuts-requires-clause-ascending g c =
    let n = g.T.Element.numbers in
    next_ascends n.greatest (numbers_of n c.loop-range.kept.items) (in_numbers n c.in-Some.range) c.next.new.self c.args.set.now
    (rw c.in-Some.ensures.steps at c.loop-range.invariant.same) n.least
    (cuts_ascend n.least n.greatest c.args.set.now c.ranges-range-items.ensures.canonical)
