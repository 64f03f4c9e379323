use Rattle.set_document.proofs.LawLemmas.{run_cuts_are_literal}
use Rattle.set_document.proofs.laws.run_cuts_are_literal.Goals as goal

pub returns : goal.returns
returns c = run_cuts_are_literal
