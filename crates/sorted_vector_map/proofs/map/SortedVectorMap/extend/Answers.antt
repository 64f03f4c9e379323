use Rattle.std.proofs.Common.{ap, ◌∙◌}
use Rattle.sorted_vector_map.specs.Grown.{after_extending}
use Rattle.sorted_vector_map.proofs.map.SortedVectorMap.extend.Goals as goal

pub returns-clause-ok : goal.returns-clause-ok
returns-clause-ok g c =
    let ran = c.in-Ok.ensures.ran in
    let end = ran.3.2 tt in
    (ran.1, (ran.0, ran.2, (end.0, (ran.3.0, ran.3.1, end.1))), c.in-Ok-extend_with_vec.ensures.pairs ∙ ap (after_extending g.K.Ord.cmp c.args.self.now.pairs) ran.4.0)
