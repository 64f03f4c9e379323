use Rattle.std.proofs.Common.{rules, ◌≡◌, ℕ, zero, suc, ◌+◌, ◌-◌, ◌<◌, refl, arith}
use Rattle.std.specs.List.{AllByRecursion, range_with_len}
use Rattle.std.specs.List.Sorted.{IsStrictlySortedBy}
use Rattle.std.specs.Ordering.{nat_cmp}
use Rattle.std.specs.declared.cmp.Ordering.TheVariants.{Less}
use Rattle.std.proofs.lemmas.Iterator.{YieldsList-from_range}
use Rattle.sorted_iter.proofs.SourceLists.{list-of_copied, items-of_collect}
use Rattle.sorted_vector_set_tests.proofs.callers.those_between.Goals as goal

less : (low x : ℕ) → low < x → nat_cmp low x ≡ Less
less low x h = grind arith

all_above : (low x n : ℕ) → low < x → AllByRecursion (λ y. nat_cmp low y ≡ Less) (range_with_len x n)
all_above low x zero h = tt
all_above low x (suc n) h = (less low x h, all_above low (x + 1) n (omega arith))

-- numbers from `low` on, each one more than the one before it, ascend
ascends : (low n : ℕ) → IsStrictlySortedBy nat_cmp (range_with_len low n)
unfolding IsStrictlySortedBy
ascends low zero = tt
ascends low (suc n) = (all_above low (low + 1) n (omega arith), ascends (low + 1) n)

pub returns : goal.returns
returns c =
    let low = c.args.low in
    let len = c.args.high - low in
    let listed = c.assume_sorted_by_item-items.ensures.lists _ (list-of_copied _ c.args.set.now.items (search rules)) in
    items-of_collect c.collect.result
    (c.intersection.ensures.lists _ (range_with_len low len) listed (record { runs = (YieldsList-from_range low c.args.high len refl refl).runs })
    c.iter.ensures.ascending (ascends low len)) c.collect.ensures.ran
