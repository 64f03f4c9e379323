use Rattle.std.proofs.Common.{◌≡◌, [], ◌∷◌, ◌++◌, refl, sym, ap, ◌∙◌, subst}
use Rattle.std.specs.List.Sorted.{IsStrictlySortedBy}
use Rattle.ordered_lists.specs.Lists.{by_key}
use Rattle.ordered_lists.proofs.PlaceLemmas.{set_ascends}
use Rattle.ordered_lists.proofs.PairLemmas.{by_key_total}
use Rattle.sorted_vector_map.specs.Content.{Content}
use Rattle.ordered_lists.proofs.TurnLemmas.{turned_in}
use Rattle.sorted_vector_map.proofs.map.SortedVectorMap.insert_at.Goals as goal

pub invariant_of-self-2 : goal.invariant_of-self-2
invariant_of-self-2 g c =
    let same : c.self.inside.items.items ≡ c.args.self.now.pairs = ap (λ (m : Content g.row.K.Denot g.row.V.Denot). m.pairs) c.self.view_is in
    let pushed : c.deref_mut.result.now ≡ c.args.self.now.pairs ++ (c.args.k, c.args.v) ∷ [] = c.deref_mut.ensures.value ∙ c.in_default.ensures.items ∙ ap (λ l. l ++ (c.args.k, c.args.v) ∷ []) same in
    rw (turned_in _ _ _ _ _ _ _ c.requires.in_range pushed (sym c.deref_mut.ensures.len) c.rotate_right.ensures.after, ← c.requires.missing.places (c.args.k, c.args.v) refl)
    (set_ascends (by_key_total g.met.K.Ord.total) _ _ (subst (IsStrictlySortedBy (by_key g.K.Ord.cmp)) same c.self.invariant))

pub returns-clause-pairs : goal.returns-clause-pairs
returns-clause-pairs g c =
    let same : c.self.inside.items.items ≡ c.args.self.now.pairs = ap (λ (m : Content g.row.K.Denot g.row.V.Denot). m.pairs) c.self.view_is in
    let pushed : c.deref_mut.result.now ≡ c.args.self.now.pairs ++ (c.args.k, c.args.v) ∷ [] = c.deref_mut.ensures.value ∙ c.in_default.ensures.items ∙ ap (λ l. l ++ (c.args.k, c.args.v) ∷ []) same in
    turned_in _ _ _ _ _ _ _ c.requires.in_range pushed (sym c.deref_mut.ensures.len) c.rotate_right.ensures.after
