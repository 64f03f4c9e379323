use Rattle.number_line.proofs.SegmentLemmas.{segments_cut, cut_is_segments}
use Rattle.number_line.proofs.laws.segments_are_the_cut.Goals as goal

pub returns : goal.returns
returns g c = λ f lo hi n e. (segments_cut g.L.PartialEq.eq f hi lo n e, λ list d. cut_is_segments g.L.PartialEq.eq f hi lo n list e d)
