use Rattle.cut_points.proofs.SymmetricLemmas.{cuts_of_symmetric}
use Rattle.cut_points.proofs.laws.cuts_of_symmetric_difference.Goals as goal

pub returns : goal.returns
returns c = cuts_of_symmetric
