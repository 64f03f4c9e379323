use Rattle.std.proofs.Common.{◌≡◌, ◌-◌, ap, ◌∙◌, take, drop, arith}
use Rattle.ordered_lists.proofs.CutLemmas.{cut_between, take_ascends, drop_ascends}
use Rattle.sorted_vector_set.specs.Content.{Content}
use Rattle.sorted_vector_set.proofs.set.SortedVectorSet.range.Goals as goal

pub returns-clause-rest : goal.returns-clause-rest
returns-clause-rest g c =
    let same : c.self.inside.items.items ≡ c.args.self.now.items = ap (λ (s : Content g.row.T.Denot). s.items) c.self.view_is in
    let whole = c.deref.ensures.value ∙ same in
    let n : c.max-end.result - c.start_of-start.result ≡ c.end_of.result - c.start_of-start.result = omega (arith, c.max-end.ensures) in
    c.iter.ensures.rest ∙ (λ i. take (n i) (drop c.start_of-start.result (whole i))) ∙ cut_between _ _ _ _ _ c.start_of-start.ensures c.end_of.ensures

pub returns-clause-ascending : goal.returns-clause-ascending
returns-clause-ascending g c =
    let cmp = g.T.Ord.cmp in
    rw (c.iter.ensures.rest, c.deref.ensures.value) (take_ascends cmp _ _ (drop_ascends cmp _ _ c.self.invariant))
