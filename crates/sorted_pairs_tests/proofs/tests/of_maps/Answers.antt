use Rattle.std.specs.Ordering.{nat_cmp}
use Rattle.sorted_pairs.specs.Sources.{run-ascends}
use Rattle.sorted_pairs_tests.proofs.tests.of_maps.Goals as goal

pub union-requires-clause-left : goal.union-requires-clause-left
union-requires-clause-left c = rw (c.copied-ranged.ensures.source, c.keys.ensures.source) (run-ascends nat_cmp _ _ c.range.ensures.contiguous c.range.ensures.ordered)
