use Rattle.set_document.proofs.LawLemmas.{few_ranges}
use Rattle.set_document.proofs.laws.few_ranges.Goals as goal

pub returns : goal.returns
returns c = few_ranges
