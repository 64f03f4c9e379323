use Rattle.std.proofs.Common.{◌≡◌, refl, sym, ap, subst}
use Rattle.std.specs.Option.{option_map}
use Rattle.std.specs.List.Sorted.{IsStrictlySortedBy}
use Rattle.ordered_lists.specs.Lists.{by_key}
use Rattle.ordered_lists.proofs.PairLemmas.{writes, set_value_ascends}
use Rattle.ordered_lists.proofs.SearchLemmas.{reads}
use Rattle.sorted_vector_map.specs.Content.{Content}
use Rattle.sorted_vector_map.proofs.map.SortedVectorMap.value_mut_at.Goals as goal

pub invariant_of-self-lent : goal.invariant_of-self-lent
invariant_of-self-lent g c w =
    let same : c.self.inside.items.items ≡ c.args.self.now.pairs = ap (λ (m : Content g.row.K.Denot g.row.V.Denot). m.pairs) c.self.view_is in
    subst (IsStrictlySortedBy (by_key g.K.Ord.cmp)) (sym (writes _ _ same _ _ w c.requires c.index_mut.ensures.value))
    (set_value_ascends g.K.Ord.cmp _ _ w (subst (IsStrictlySortedBy (by_key g.K.Ord.cmp)) same c.self.invariant))

pub returns : goal.returns
returns g c =
    let same : c.self.inside.items.items ≡ c.args.self.now.pairs = ap (λ (m : Content g.row.K.Denot g.row.V.Denot). m.pairs) c.self.view_is in
    let room = ap (λ (m : Content g.row.K.Denot g.row.V.Denot). m.spare) c.self.view_is in (
      (refl, λ w i. record { pairs = writes _ _ same _ _ w c.requires c.index_mut.ensures.value i; spare = room i }),
      record { writes_back = tt; value = ap (option_map (λ (p : g.row.K.Denot × g.row.V.Denot). p.1)) (reads _ _ same _ c.index_mut.result.now c.requires c.index_mut.ensures.value) },
    )
