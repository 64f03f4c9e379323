use Rattle.std.proofs.Common.{◌≡◌, ◌-◌, Some, length, slice_get, sym, ap, ◌∙◌, subst}
use Rattle.ordered_lists.specs.Search.{IsMissing}
use Rattle.ordered_lists.proofs.SearchLemmas.{after_last, by_lt}
use Rattle.sorted_vector_set.specs.Content.{Content}
use Rattle.sorted_vector_set.proofs.set.SortedVectorSet.place_of.Goals as goal

pub returns-then-is_lt-clause-missing : goal.returns-then-is_lt-clause-missing
returns-then-is_lt-clause-missing g c =
    let whole : c.deref.result.now ≡ c.args.self.now.items = c.deref.ensures.value ∙ ap (λ (s : Content g.row.T.Denot). s.items) c.self.view_is in
    let end : length c.deref.result.now ≡ c.len.result = c.deref.ensures.len ∙ sym c.len.ensures in
    let less = by_lt (g.T.Ord.cmp c.in-Some.last.now c.args.q.now) (ap Rattle.std.specs.Ordering.is_lt (sym c.cmp.ensures) ∙ sym c.is_lt.ensures ∙ c.if-is_lt.true) in
    let last : slice_get c.deref.result.now (length c.deref.result.now - 1) ≡ Some c.in-Some.last.now = sym {b = slice_get c.deref.result.now (length c.deref.result.now - 1)} c.in-Some.ensures.value in
    let at = after_last (λ x. x) g.T.Ord.cmp g.met.T.Ord.total c.deref.result.now (rw c.deref.ensures.value c.self.invariant) c.args.q.now c.in-Some.last.now last less in
    subst (λ l. IsMissing (λ x. x) g.T.Ord.cmp l c.args.q.now c.len.result) whole (subst (IsMissing (λ x. x) g.T.Ord.cmp c.deref.result.now c.args.q.now) end at)
