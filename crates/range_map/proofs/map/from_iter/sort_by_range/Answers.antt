use Rattle.std.proofs.Common.{rules}
use Rattle.std.proofs.lemmas.List.MinMax.{ranks_by}
use Rattle.std.proofs.lemmas.List.Sorted.{answers_always}
use Rattle.number_line.specs.Kept.{has_less_range}
use Rattle.number_line.proofs.PlacedLemmas.{range_cmp_total}
use Rattle.range_map.specs.Range.{in_numbers}
use Rattle.range_map.specs.Valued.{pair_in_numbers}
use Rattle.range_map.proofs.DividedLemmas.{sorted_by_range}
use Rattle.range_map.proofs.map.from_iter.sort_by_range.Goals as goal

pub returns-clause-placed : goal.returns-clause-placed
returns-clause-placed g c =
    let numbers = g.T.Element.numbers in
    let pair = (g.row.T.Denot × g.row.T.Denot) × g.row.V.Denot in
    let less = λ (a b : pair). has_less_range (pair_in_numbers numbers a) (pair_in_numbers numbers b) in
    let ranks = ranks_by range_cmp_total (λ (p : pair). in_numbers numbers p.0) in
    sorted_by_range numbers c.args.pairs.now.items c.sort_by.new.self.items
    (c.in_ok-sort_by.ensures.sorted less ranks (answers_always _ _ _ (λ f a r f' called. search rules)))
    (c.in_ok-sort_by.ensures.stable less ranks (answers_always _ _ _ (λ f a r f' called. search rules)))
