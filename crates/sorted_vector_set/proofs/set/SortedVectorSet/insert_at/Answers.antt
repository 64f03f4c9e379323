use Rattle.std.proofs.Common.{◌≡◌, [], ◌∷◌, ◌++◌, refl, sym, ap, ◌∙◌, subst}
use Rattle.std.specs.List.Sorted.{IsStrictlySortedBy}
use Rattle.ordered_lists.proofs.PlaceLemmas.{set_ascends}
use Rattle.sorted_vector_set.specs.Content.{Content}
use Rattle.ordered_lists.proofs.TurnLemmas.{turned_in}
use Rattle.sorted_vector_set.proofs.set.SortedVectorSet.insert_at.Goals as goal

pub invariant_of-self-2 : goal.invariant_of-self-2
invariant_of-self-2 g c =
    let same : c.self.inside.items.items ≡ c.args.self.now.items = ap (λ (m : Content g.row.T.Denot). m.items) c.self.view_is in
    let pushed : c.deref_mut.result.now ≡ c.args.self.now.items ++ c.args.value ∷ [] = c.deref_mut.ensures.value ∙ c.in_default.ensures.items ∙ ap (λ l. l ++ c.args.value ∷ []) same in
    rw (turned_in _ _ _ _ _ _ _ c.requires.in_range pushed (sym c.deref_mut.ensures.len) c.rotate_right.ensures.after, ← c.requires.places c.args.value refl)
    (set_ascends g.met.T.Ord.total _ _ (subst (IsStrictlySortedBy g.T.Ord.cmp) same c.self.invariant))

pub returns-clause-items : goal.returns-clause-items
returns-clause-items g c =
    let same : c.self.inside.items.items ≡ c.args.self.now.items = ap (λ (m : Content g.row.T.Denot). m.items) c.self.view_is in
    let pushed : c.deref_mut.result.now ≡ c.args.self.now.items ++ c.args.value ∷ [] = c.deref_mut.ensures.value ∙ c.in_default.ensures.items ∙ ap (λ l. l ++ c.args.value ∷ []) same in
    turned_in _ _ _ _ _ _ _ c.requires.in_range pushed (sym c.deref_mut.ensures.len) c.rotate_right.ensures.after
