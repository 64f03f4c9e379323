use Rattle.set_document.proofs.NumberLemmas.{runs_are_the_ranges}
use Rattle.set_document.proofs.laws.runs_are_the_ranges.Goals as goal

pub returns : goal.returns
returns c = runs_are_the_ranges
