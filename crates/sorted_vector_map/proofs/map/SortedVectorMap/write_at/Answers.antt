use Rattle.std.proofs.Common.{◌≡◌, Some, sym, ap, ◌∙◌, subst}
use Rattle.std.specs.Option.{option_map}
use Rattle.std.specs.List.Sorted.{IsStrictlySortedBy}
use Rattle.ordered_lists.specs.Lists.{by_key}
use Rattle.ordered_lists.specs.Search.{set_value}
use Rattle.ordered_lists.proofs.PairLemmas.{writes, set_value_ascends}
use Rattle.ordered_lists.proofs.SearchLemmas.{reads}
use Rattle.sorted_vector_map.specs.Content.{Content}
use Rattle.sorted_vector_map.proofs.map.SortedVectorMap.write_at.Goals as goal

pub invariant_of-self : goal.invariant_of-self
invariant_of-self g c =
    let same : c.self.inside.items.items ≡ c.args.self.now.pairs = ap (λ (m : Content g.row.K.Denot g.row.V.Denot). m.pairs) c.self.view_is in
    subst (IsStrictlySortedBy (by_key g.K.Ord.cmp)) (sym (writes _ _ same _ _ _ c.requires c.index_mut.ensures.value))
    (set_value_ascends g.K.Ord.cmp _ _ _ (subst (IsStrictlySortedBy (by_key g.K.Ord.cmp)) same c.self.invariant))

pub returns-clause-pairs : goal.returns-clause-pairs
returns-clause-pairs g c =
    let same : c.self.inside.items.items ≡ c.args.self.now.pairs = ap (λ (m : Content g.row.K.Denot g.row.V.Denot). m.pairs) c.self.view_is in
    writes _ _ same _ _ _ c.requires c.index_mut.ensures.value ∙ ap (set_value c.args.self.now.pairs c.args.at) c.replace.ensures.after

pub returns-clause-value : goal.returns-clause-value
returns-clause-value g c =
    let same : c.self.inside.items.items ≡ c.args.self.now.pairs = ap (λ (m : Content g.row.K.Denot g.row.V.Denot). m.pairs) c.self.view_is in
    ap (option_map (λ (p : g.row.K.Denot × g.row.V.Denot). p.1)) (reads _ _ same _ c.index_mut.result.now c.requires c.index_mut.ensures.value) ∙ ap Some (sym c.replace.ensures.value)
