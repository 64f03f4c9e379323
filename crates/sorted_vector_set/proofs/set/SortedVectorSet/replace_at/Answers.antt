use Rattle.std.proofs.Common.{◌≡◌, Some, refl, sym, ap, ◌∙◌, subst}
use Rattle.std.specs.List.Sorted.{IsStrictlySortedBy}
use Rattle.ordered_lists.proofs.PlaceLemmas.{set_ascends}
use Rattle.ordered_lists.proofs.SearchLemmas.{reads}
use Rattle.sorted_vector_set.specs.Content.{Content}
use Rattle.sorted_vector_set.proofs.set.SortedVectorSet.replace_at.Goals as goal

pub invariant_of-self : goal.invariant_of-self
invariant_of-self g c =
    let same : c.self.inside.items.items ≡ c.args.self.now.items = ap (λ (s : Content g.row.T.Denot). s.items) c.self.view_is in
    rw (c.replace.ensures.after, same, ← c.requires.places c.args.value refl)
    (set_ascends g.met.T.Ord.total _ _ (subst (IsStrictlySortedBy g.T.Ord.cmp) same c.self.invariant))

pub returns-clause-value : goal.returns-clause-value
returns-clause-value g c =
    let same : c.self.inside.items.items ≡ c.args.self.now.items = ap (λ (s : Content g.row.T.Denot). s.items) c.self.view_is in
    reads _ _ same _ c.index_mut.result.now c.requires.in_range c.index_mut.ensures.value ∙ ap Some (sym c.replace.ensures.value)
