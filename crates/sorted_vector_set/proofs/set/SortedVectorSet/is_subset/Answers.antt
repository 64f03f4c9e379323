use Rattle.std.proofs.Common.{◌≡◌, sym, ap, ◌∙◌, arith, subst, length}
use Rattle.std.specs.List.Sorted.{IsStrictlySortedBy}
use Rattle.std.specs.Map.Iter.{deref}
use Rattle.ordered_lists.specs.Lists.{has}
use Rattle.sorted_iter.proofs.TellLemmas.{is_nil, all-filter}
use Rattle.sorted_vector_set.specs.Content.{Content}
use Rattle.sorted_vector_set.specs.Lazy.{difference_to_come}
use Rattle.sorted_vector_set.proofs.RelationLemmas.{first_tells, too_many}
use Rattle.sorted_vector_set.proofs.set.SortedVectorSet.is_subset.Goals as goal

pub returns-then-len : goal.returns-then-len
returns-then-len g c =
    let mine : c.self.inside.items.items ≡ c.args.self.now.items = ap (λ (s : Content g.row.T.Denot). s.items) c.self.view_is in
    let theirs : c.other.inside.items.items ≡ c.args.other.now.items = ap (λ (s : Content g.row.T.Denot). s.items) c.other.view_is in
    too_many g.met.T.Ord.total _ _ (subst (IsStrictlySortedBy g.T.Ord.cmp) mine c.self.invariant)
    (omega (arith, ap length mine, ap length theirs, c.len.ensures, c.len-2.ensures, c.if-len.true, c.self.inside.items.ok, c.other.inside.items.ok))

pub returns : goal.returns
returns g c =
    first_tells deref (difference_to_come g.T.Ord.cmp) c.difference-missing.result c.next.new.self _ _ c.next.ensures.steps c.is_none.ensures ∙ ap is_nil c.difference-missing.ensures.items
    ∙ sym (all-filter (has g.T.Ord.cmp c.args.other.now.items) c.args.self.now.items)
