use Rattle.std.proofs.Common.{refl, sym, subst, ◌∙◌}
use Rattle.std.specs.List.{AllZip}
use Rattle.std.specs.List.Sorted.{IsStrictlySortedBy}
use Rattle.std.specs.Map.Iter.{deref}
use Rattle.sorted_vector_set.specs.Lazy.{difference_to_come}
use Rattle.sorted_vector_set.proofs.LazyLemmas.{drained}
use Rattle.sorted_vector_set.proofs.set.SortedVectorSet.sub.Goals as goal

pub clones_of-requires : goal.clones_of-requires
clones_of-requires g c κs = (
  (refl, tt),
  (tt, (tt, (c.requires, λ shown ran. subst (IsStrictlySortedBy g.T.Ord.cmp) (sym (drained deref (difference_to_come g.T.Ord.cmp) shown _ ran)) c.difference.ensures.ascending))),
)

pub returns : goal.returns
returns g c =
    let made = c.in_ok-set.ensures in
    subst (λ l. AllZip g.T.Clone.is_clone l c.in_ok-set.set.items) (drained deref (difference_to_come g.T.Ord.cmp) made.0 _ made.1 ∙ c.difference.ensures.items) made.2
