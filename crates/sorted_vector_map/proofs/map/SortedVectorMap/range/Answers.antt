use Rattle.std.proofs.Common.{◌≡◌, ◌-◌, ap, ◌∙◌, take, drop, arith}
use Rattle.std.specs.Map.Iter.{deref_pair}
use Rattle.ordered_lists.proofs.CutLemmas.{cut_between}
use Rattle.sorted_vector_map.specs.Content.{Content}
use Rattle.sorted_vector_map.proofs.ComingLemmas.{comes_by_reference}
use Rattle.sorted_vector_map.proofs.map.SortedVectorMap.range.Goals as goal

pub returns-clause-pairs : goal.returns-clause-pairs
returns-clause-pairs g c =
    let same : c.self.inside.items.items ≡ c.args.self.now.pairs = ap (λ (m : Content g.row.K.Denot g.row.V.Denot). m.pairs) c.self.view_is in
    let whole = c.deref.ensures.value ∙ same in
    let n : c.max-end.result - c.start_of-start.result ≡ c.end_of.result - c.start_of-start.result = omega (arith, c.max-end.ensures) in
    comes_by_reference deref_pair _ _
    (c.new.ensures.all ∙ (λ i. take (n i) (drop c.start_of-start.result (whole i))) ∙ cut_between _ _ _ _ _ c.start_of-start.ensures c.end_of.ensures)
    c.new.ensures.countable
