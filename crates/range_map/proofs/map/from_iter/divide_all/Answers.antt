use Rattle.range_map.proofs.map.from_iter.divide_all.Goals as goal

pub returns-clause-divided : goal.returns-clause-divided
returns-clause-divided g c =
    let ran = c.in_ok-pairs.ensures.ran in
    let end = ran.3.2 tt in
    (ran.0, ran.1, ran.2, (end.0, (ran.3.0, ran.3.1, end.1)), rw (← ran.4.0) c.in_ok-divided.ensures.divided)
