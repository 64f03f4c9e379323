use Rattle.number_line.specs.Segments.{segments}
use Rattle.number_line.proofs.SegmentLemmas.{segments_cut}
use Rattle.number_line.proofs.CoverLemmas.{fewest}
use Rattle.number_line.proofs.laws.segments_are_fewest.Goals as goal

pub returns : goal.returns
returns g c = λ f lo hi n cover e same_self d. fewest g.L.PartialEq.eq same_self f hi lo (segments g.L.PartialEq.eq f lo n) cover (segments_cut g.L.PartialEq.eq f hi lo n e) d
