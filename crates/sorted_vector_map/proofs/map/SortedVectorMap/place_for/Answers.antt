use Rattle.std.proofs.Common.{◌≡◌, ◌-◌, Some, length, slice_get, sym, ap, ◌∙◌, subst}
use Rattle.std.specs.Ordering.{is_lt}
use Rattle.ordered_lists.specs.Search.{IsPairMissing}
use Rattle.ordered_lists.proofs.PairLemmas.{pair_after_last}
use Rattle.ordered_lists.proofs.SearchLemmas.{by_lt}
use Rattle.sorted_vector_map.specs.Content.{Content}
use Rattle.sorted_vector_map.proofs.map.SortedVectorMap.place_for.Goals as goal

pub returns-then-is_lt-clause-missing : goal.returns-then-is_lt-clause-missing
returns-then-is_lt-clause-missing g c =
    let whole : c.deref.result.now ≡ c.args.self.now.pairs = c.deref.ensures.value ∙ ap (λ (m : Content g.row.K.Denot g.row.V.Denot). m.pairs) c.self.view_is in
    let end : length c.deref.result.now ≡ c.len.result = c.deref.ensures.len ∙ sym c.len.ensures in
    let less = by_lt (g.K.Ord.cmp c.in-Some.last.now.0 c.args.q.now) (ap is_lt (sym c.cmp.ensures) ∙ sym c.is_lt.ensures ∙ c.if-is_lt.true) in
    let last : slice_get c.deref.result.now (length c.deref.result.now - 1) ≡ Some c.in-Some.last.now = sym {b = slice_get c.deref.result.now (length c.deref.result.now - 1)} c.in-Some.ensures.value in
    let at = pair_after_last g.K.Ord.cmp g.met.K.Ord.total c.deref.result.now (rw c.deref.ensures.value c.self.invariant) c.args.q.now c.in-Some.last.now last less in
    subst (λ l. IsPairMissing g.K.Ord.cmp l c.args.q.now c.len.result) whole (subst (IsPairMissing g.K.Ord.cmp c.deref.result.now c.args.q.now) end at)
