use Rattle.std.proofs.Common.{rules, map}
use Rattle.sorted_iter.proofs.SourceLists.{list-of_shown_copied, items-of_collect}
use Rattle.uses.proofs.streams.keys_of_either.Goals as goal

pub returns : goal.returns
returns g c =
    let a = c.assume_sorted_by_item-left.ensures.lists _ (list-of_shown_copied _ (map (λ p. p.0) c.args.a.now.pairs) (search rules)) in
    let b = c.assume_sorted_by_item-right.ensures.lists _ (list-of_shown_copied _ (map (λ p. p.0) c.args.b.now.pairs) (search rules)) in
    items-of_collect c.collect.result (c.union.ensures.lists _ _ a b c.keys.ensures.ascending c.keys-2.ensures.ascending) c.collect.ensures.ran
