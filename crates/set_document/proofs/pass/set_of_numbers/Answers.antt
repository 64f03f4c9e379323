use Rattle.std.proofs.Common.{refl, ◌∙◌}
use Rattle.set_document.proofs.NumberLemmas.{least_is, greatest_is, numbers_are}
use Rattle.set_document.proofs.pass.set_of_numbers.Goals as goal

pub from_cut_slice-requires : goal.from_cut_slice-requires
from_cut_slice-requires c = rw (least_is, greatest_is, numbers_are c.args.numbers.now) c.requires

pub returns : goal.returns
returns c = c.in_ok-set.ensures ∙ rw (greatest_is, numbers_are c.args.numbers.now) refl
