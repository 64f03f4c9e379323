use Rattle.std.proofs.Common.{sym, ap, ◌∙◌}
use Rattle.std.specs.Map.Iter.{deref}
use Rattle.ordered_lists.specs.Lists.{has}
use Rattle.sorted_iter.proofs.TellLemmas.{is_nil, none-filter}
use Rattle.sorted_vector_set.specs.Lazy.{intersection_to_come}
use Rattle.sorted_vector_set.proofs.RelationLemmas.{first_tells}
use Rattle.sorted_vector_set.proofs.set.SortedVectorSet.is_disjoint.Goals as goal

pub returns : goal.returns
returns g c =
    first_tells deref (intersection_to_come g.T.Ord.cmp) c.intersection-shared.result c.next.new.self _ _ c.next.ensures.steps c.is_none.ensures ∙ ap is_nil c.intersection-shared.ensures.items
    ∙ sym (none-filter (has g.T.Ord.cmp c.args.other.now.items) c.args.self.now.items)
