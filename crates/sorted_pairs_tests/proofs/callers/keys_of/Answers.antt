use Rattle.std.proofs.Common.{rules}
use Rattle.sorted_iter.proofs.SourceLists.{list-of_copied, items-of_collect}
use Rattle.sorted_pairs_tests.proofs.callers.keys_of.Goals as goal

pub returns : goal.returns
returns g c = items-of_collect c.collect.result (c.keys.ensures.lists _ (c.assume_sorted_by_key.ensures.lists _ (list-of_copied _ c.args.a.now (search rules)))) c.collect.ensures.ran
