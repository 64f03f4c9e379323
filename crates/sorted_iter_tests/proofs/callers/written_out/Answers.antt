use Rattle.std.proofs.Common.{rules, [], ◌∷◌, refl}
use Rattle.std.proofs.lemmas.Iterator.{YieldsList-from_range}
use Rattle.sorted_iter.proofs.SourceLists.{list-of_copied, items-of_collect}
use Rattle.sorted_iter_tests.proofs.Literals.{literals}
use Rattle.sorted_iter_tests.proofs.callers.written_out.Goals as goal

pub returns : goal.returns
returns c =
    let listed = c.assume_sorted_by_item-listed.ensures.lists _ (list-of_copied _ (1 ∷ 2 ∷ 5 ∷ []) (search rules)) in
    items-of_collect c.collect.result
    (c.union.ensures.lists _ (2 ∷ 3 ∷ []) listed (record { runs = (YieldsList-from_range 2 4 2 refl refl).runs }) (search (rules, literals)) (search (rules, literals)))
    c.collect.ensures.ran
