use Rattle.std.proofs.Common.{ap, ◌∙◌}
use Rattle.std.specs.Prelude.{not}
use Rattle.range_map_tests.proofs.whole_callers.free_days.Goals as goal

pub returns : goal.returns
returns c = λ day low high. c.in_ok-free.ensures.members day low high ∙ ap not (c.in_ok-booked.ensures.members day)
