use Rattle.std.proofs.Common.{rules, ◌≡◌, ℤ, ap, ◌∙◌}
use Rattle.std.specs.Ordering.{int_cmp, is_lt}
use Rattle.std.proofs.lemmas.Cmp.{int_cmp_total}
use Rattle.std.proofs.lemmas.List.MinMax.{ranks_by}
use Rattle.std.proofs.lemmas.List.Sorted.{answers_always}
use Rattle.number_line.specs.Ranges.{holds}
use Rattle.range_map.specs.Set.{all_in_numbers}
use Rattle.range_map.proofs.JoinLemmas.{told_as, sorted_in_order, holds_permuted}
use Rattle.range_map.proofs.set.from_iter.join_all.Goals as goal

pub join_in_order-requires : goal.join_in_order-requires
join_in_order-requires g c =
    let numbers = g.T.Element.numbers in
    rw c.as_slice.ensures.value
    (sorted_in_order numbers _ (c.sort_unstable_by.ensures.sorted (λ a b. is_lt (int_cmp (numbers.number a.0) (numbers.number b.0)))
    (ranks_by int_cmp_total (λ r. numbers.number r.0)) (answers_always _ _ _ (λ f a r f' called. search rules))))

pub returns-clause-members : goal.returns-clause-members
returns-clause-members g c =
    let numbers = g.T.Element.numbers in
    told_as (λ set. (x : ℤ) → holds set x ≡ holds (all_in_numbers numbers c.as_slice.result.now) x) (λ set. (x : ℤ) → holds set x ≡ holds (all_in_numbers numbers c.args.ranges.items) x)
    c.join_in_order.result c.join_in_order.ensures.members
    (λ set h x. h x ∙ (ap (λ l. holds (all_in_numbers numbers l) x) c.as_slice.ensures.value ∙ holds_permuted numbers _ _ c.sort_unstable_by.ensures.permutation x))
