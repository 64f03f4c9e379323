use Rattle.set_document.proofs.FewestLemmas.{rows_are_fewest}
use Rattle.set_document.proofs.laws.fewest_rows.Goals as goal

pub returns : goal.returns
returns c = rows_are_fewest
