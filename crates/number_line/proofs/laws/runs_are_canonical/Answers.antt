use Rattle.number_line.proofs.SegmentLemmas.{runs_canonical, runs_hold}
use Rattle.number_line.proofs.laws.runs_are_canonical.Goals as goal

pub returns : goal.returns
returns c = λ f lo hi n e. (runs_canonical f hi lo n e, runs_hold f hi lo n e)
