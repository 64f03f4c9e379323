use Rattle.std.proofs.Common.{◌≡◌, ap, ◌∙◌, take, drop}
use Rattle.ordered_lists.proofs.CutLemmas.{take_ascends, drop_ascends, cut_front, cut_back}
use Rattle.sorted_vector_set.specs.Content.{Content}
use Rattle.sorted_vector_set.proofs.set.SortedVectorSet.split_off.Goals as goal

pub invariant_of-self-2 : goal.invariant_of-self-2
invariant_of-self-2 g c = rw c.in-Ok.ensures.items (take_ascends g.T.Ord.cmp _ _ c.self.invariant)

pub invariant_of-result : goal.invariant_of-result
invariant_of-result g c = rw c.in-Ok.ensures.tail (drop_ascends g.T.Ord.cmp _ _ c.self.invariant)

pub returns-clause-below : goal.returns-clause-below
returns-clause-below g c =
    let same : c.self.inside.items.items ≡ c.args.self.now.items = ap (λ (s : Content g.row.T.Denot). s.items) c.self.view_is in
    c.in-Ok.ensures.items ∙ ap (take _) same ∙ cut_front _ _ _ c.place_before-at.ensures

pub returns-clause-from : goal.returns-clause-from
returns-clause-from g c =
    let same : c.self.inside.items.items ≡ c.args.self.now.items = ap (λ (s : Content g.row.T.Denot). s.items) c.self.view_is in
    c.in-Ok.ensures.tail ∙ ap (drop _) same ∙ cut_back _ _ _ c.place_before-at.ensures
