use Rattle.std.proofs.Common.{ℕ, All, sym, subst}
use Rattle.std.specs.List.Sorted.{IsStrictlySortedBy}
use Rattle.std.specs.Ordering.{nat_cmp}
use Rattle.std.specs.Cmp.{on_total, nat_cmp_total}
use Rattle.std.specs.declared.collections.btree_set.Iter.{Iter}
use Rattle.std.proofs.lemmas.List.Elements.{All-nil, All-push}
use Rattle.sorted_iter.proofs.MultiwayCallers.{all-of_vec, same_comes_alike}
use Rattle.sorted_iter_tests.proofs.multiway_tests.union_and_clone.Goals as goal

pub multiway_union-requires-clause-in_order : goal.multiway_union-requires-clause-in_order
multiway_union-requires-clause-in_order c = λ j e. all-of_vec Up j _ e.0 three
  where
    Up : Iter ℕ → Type 0
    Up s = IsStrictlySortedBy nat_cmp s

    three : All Up c.push-3.new.self.items
    three =
        let none = subst (All Up) (sym c.in_ok-iters.ensures.items) (All-nil Up) in
        let one = subst (All Up) (sym c.in_ok-push.ensures.items) (All-push Up _ c.iter.result none (subst Up (sym c.iter.ensures.rest) c.iter.ensures.ordered)) in
        let two = subst (All Up) (sym c.in_ok-push-2.ensures.items) (All-push Up _ c.iter-2.result one (subst Up (sym c.iter-2.ensures.rest) c.iter-2.ensures.ordered)) in
        subst (All Up) (sym c.in_ok-push-3.ensures.items) (All-push Up _ c.iter-3.result two (subst Up (sym c.iter-3.ensures.rest) c.iter-3.ensures.ordered))

pub try_clone-requires-clause-inputs : goal.try_clone-requires-clause-inputs
try_clone-requires-clause-inputs c = λ s copy e. same_comes_alike (on_total (λ x. x.now) nat_cmp_total) _ _ _ s copy e
