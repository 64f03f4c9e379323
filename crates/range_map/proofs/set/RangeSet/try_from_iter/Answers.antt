use Rattle.range_map.proofs.set.RangeSet.try_from_iter.Goals as goal

pub returns-clause-members : goal.returns-clause-members
returns-clause-members g c =
    let ran = c.in_ok-ranges.ensures.ran in
    let end = ran.3.2 tt in
    (ran.0, ran.1, ran.2, (end.0, (ran.3.0, ran.3.1, end.1)), rw (← ran.4.0) c.in_ok-set.ensures.members)
