use Rattle.std.proofs.Common.{◌≡◌, ◌++◌, sym, ap, ◌∙◌, subst}
use Rattle.std.specs.List.Sorted.{IsStrictlySortedBy}
use Rattle.ordered_lists.specs.Lists.{by_key}
use Rattle.ordered_lists.proofs.CloneLemmas.{equal_is, equals_ascend}
use Rattle.ordered_lists.proofs.PairLemmas.{by_key_total}
use Rattle.sorted_vector_map.specs.Content.{Content}
use Rattle.sorted_vector_map.proofs.map.SortedVectorMap.try_clone.Goals as goal

pub invariant_of-result : goal.invariant_of-result
invariant_of-result g c =
    let made = c.in_ok-extend_with_clones.ensures.items in
    let whole : c.extend_with_clones.new.self.items ≡ made.0 = made.1 ∙ ap (λ t. t ++ made.0) c.in_ok-items.ensures.items in
    subst (IsStrictlySortedBy (by_key g.K.Ord.cmp)) (sym whole)
    (equals_ascend (by_key g.K.Ord.cmp) (by_key_total g.met.K.Ord.total) _
    (λ p q cloned. equal_is _ (sym (g.met.K.Ord.matches_eq q.0 p.0) ∙ c.requires p.0 q.0 cloned.0))
    c.deref.result.now made.0 made.2 (rw c.deref.ensures.value c.self.invariant))

pub returns : goal.returns
returns g c =
    let made = c.in_ok-extend_with_clones.ensures.items in
    let same : c.self.inside.items.items ≡ c.args.self.now.pairs = ap (λ (m : Content g.row.K.Denot g.row.V.Denot). m.pairs) c.self.view_is in
    let whole : c.extend_with_clones.new.self.items ≡ made.0 = made.1 ∙ ap (λ t. t ++ made.0) c.in_ok-items.ensures.items in
    rw (whole, ← same, ← c.deref.ensures.value) made.2
