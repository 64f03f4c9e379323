use Rattle.range_map.specs.Range.{in_numbers}
use Rattle.range_map.specs.Sweep.{numbers_of}
use Rattle.cut_points.proofs.PlaceLemmas.{first_ascends}
use Rattle.cut_points.proofs.convert.push_cuts.Goals as goal

pub push_cut-requires-clause-ascending : goal.push_cut-requires-clause-ascending
push_cut-requires-clause-ascending g c =
    let n = g.T.Element.numbers in
    rw c.start.ensures.value (first_ascends n.least n.greatest (numbers_of n c.args.kept.now.items) (in_numbers n c.args.range) c.requires.ascending)
