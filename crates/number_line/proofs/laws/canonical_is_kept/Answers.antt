use Rattle.number_line.proofs.KeptLemmas.{canonical_is_kept}
use Rattle.number_line.proofs.laws.canonical_is_kept.Goals as goal

pub returns : goal.returns
returns g c = λ lo hi list canonical. canonical_is_kept g.V.PartialEq.eq hi lo list canonical
