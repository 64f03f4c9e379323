use Rattle.std.proofs.Common.{◌≡◌, ◌++◌, sym, ap, ◌∙◌, subst}
use Rattle.std.specs.List.Sorted.{IsStrictlySortedBy}
use Rattle.ordered_lists.proofs.CloneLemmas.{equal_is, equals_ascend, equals_pointwise}
use Rattle.sorted_vector_set.specs.Content.{Content}
use Rattle.sorted_vector_set.proofs.set.SortedVectorSet.try_clone.Goals as goal

pub invariant_of-result : goal.invariant_of-result
invariant_of-result g c =
    let made = c.in_ok-extend_with_clones.ensures.items in
    let whole : c.extend_with_clones.new.self.items ≡ made.0 = made.1 ∙ ap (λ t. t ++ made.0) c.in_ok-items.ensures.items in
    subst (IsStrictlySortedBy g.T.Ord.cmp) (sym whole)
    (equals_ascend g.T.Ord.cmp g.met.T.Ord.total _
    (λ x y cloned. equal_is _ (sym (g.met.T.Ord.matches_eq y x) ∙ c.requires x y cloned))
    c.deref.result.now made.0 made.2 (rw c.deref.ensures.value c.self.invariant))

pub returns-clause-clones : goal.returns-clause-clones
returns-clause-clones g c =
    let made = c.in_ok-extend_with_clones.ensures.items in
    let same : c.self.inside.items.items ≡ c.args.self.now.items = ap (λ (s : Content g.row.T.Denot). s.items) c.self.view_is in
    let whole : c.extend_with_clones.new.self.items ≡ made.0 = made.1 ∙ ap (λ t. t ++ made.0) c.in_ok-items.ensures.items in
    rw (whole, ← same, ← c.deref.ensures.value) made.2

pub returns-clause-equal : goal.returns-clause-equal
returns-clause-equal g c =
    let made = c.in_ok-extend_with_clones.ensures.items in
    let same : c.self.inside.items.items ≡ c.args.self.now.items = ap (λ (s : Content g.row.T.Denot). s.items) c.self.view_is in
    let whole : c.extend_with_clones.new.self.items ≡ made.0 = made.1 ∙ ap (λ t. t ++ made.0) c.in_ok-items.ensures.items in
    rw (whole, ← same, ← c.deref.ensures.value) (equals_pointwise _ g.T.PartialEq.eq c.requires c.deref.result.now made.0 made.2)
