use Rattle.std.proofs.Common.{ap, ◌∙◌}
use Rattle.ordered_lists.specs.Lists.{sets}
use Rattle.sorted_vector_set.proofs.set.SortedVectorSet.extend.Goals as goal

pub returns-clause-ok : goal.returns-clause-ok
returns-clause-ok g c =
    let ran = c.in-Ok.ensures.ran in
    let end = ran.3.2 tt in
    (ran.1, (ran.0, ran.2, (end.0, (ran.3.0, ran.3.1, end.1))), c.in-Ok-extend_with_vec.ensures.items ∙ ap (sets g.T.Ord.cmp c.args.self.now.items) ran.4.0)
