use Rattle.std.proofs.Common.{◌≡◌, ◌++◌, ap, ◌∙◌, sym, subst, take}
use Rattle.ordered_lists.specs.Lists.{by_key, sets}
use Rattle.ordered_lists.proofs.CutLemmas.{take_ascends}
use Rattle.sorted_vector_map.specs.Content.{Content}
use Rattle.sorted_vector_map.proofs.map.SortedVectorMap.open_for.Goals as goal

pub invariant_of-self-2 : goal.invariant_of-self-2
invariant_of-self-2 g c = rw (c.in-Ok.ensures.items, c.reserve.ensures.items) (take_ascends (by_key g.K.Ord.cmp) _ _ c.self.invariant)

pub returns-clause-stays : goal.returns-clause-stays
returns-clause-stays g c l =
    let same : c.self.inside.items.items ≡ c.args.self.now.pairs = ap (λ (m : Content g.row.K.Denot g.row.V.Denot). m.pairs) c.self.view_is in
    let front : c.split_off.new.self.items ≡ take c.place_under-at.result c.args.self.now.pairs = c.in-Ok.ensures.items ∙ ap (take c.place_under-at.result) (c.reserve.ensures.items ∙ same) in
    subst (λ t. sets (by_key g.K.Ord.cmp) (t ++ l) c.args.new.now ≡ t ++ sets (by_key g.K.Ord.cmp) l c.args.new.now) (sym front) (c.place_under-at.ensures.stays l)
