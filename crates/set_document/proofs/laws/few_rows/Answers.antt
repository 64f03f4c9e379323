use Rattle.set_document.proofs.LawLemmas.{few_rows}
use Rattle.set_document.proofs.laws.few_rows.Goals as goal

pub returns : goal.returns
returns c = few_rows
