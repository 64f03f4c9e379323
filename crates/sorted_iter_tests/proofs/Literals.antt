-- The rule by which lists that are written out ascend, under a name of this crate.
use Rattle.sorted_iter.proofs.Literals.{sorted-literal}

pub ruleset literals = (sorted-literal)
