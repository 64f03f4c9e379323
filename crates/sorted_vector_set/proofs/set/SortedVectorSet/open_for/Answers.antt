use Rattle.std.proofs.Common.{◌≡◌, ◌++◌, ap, ◌∙◌, sym, subst, take}
use Rattle.ordered_lists.specs.Lists.{sets}
use Rattle.ordered_lists.proofs.CutLemmas.{take_ascends}
use Rattle.sorted_vector_set.specs.Content.{Content}
use Rattle.sorted_vector_set.proofs.set.SortedVectorSet.open_for.Goals as goal

pub invariant_of-self-2 : goal.invariant_of-self-2
invariant_of-self-2 g c = rw (c.in-Ok.ensures.items, c.reserve.ensures.items) (take_ascends g.T.Ord.cmp _ _ c.self.invariant)

pub returns-clause-stays : goal.returns-clause-stays
returns-clause-stays g c l =
    let same : c.self.inside.items.items ≡ c.args.self.now.items = ap (λ (s : Content g.row.T.Denot). s.items) c.self.view_is in
    let front : c.split_off.new.self.items ≡ take c.place_under-at.result c.args.self.now.items = c.in-Ok.ensures.items ∙ ap (take c.place_under-at.result) (c.reserve.ensures.items ∙ same) in
    subst (λ t. sets g.T.Ord.cmp (t ++ l) c.args.new.now ≡ t ++ sets g.T.Ord.cmp l c.args.new.now) (sym front) (c.place_under-at.ensures.stays l)
