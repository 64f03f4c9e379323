use Rattle.set_document.proofs.LiteralLemmas.{changes_at_literals}
use Rattle.set_document.proofs.laws.truth_changes_at_cuts.Goals as goal

pub returns : goal.returns
returns c = λ text x q h. changes_at_literals text x q h
