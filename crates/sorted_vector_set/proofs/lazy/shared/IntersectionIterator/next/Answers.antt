use Rattle.std.proofs.Common.{true, false, subst}
use Rattle.std.specs.Iterator.{YieldsFirstBy}
use Rattle.std.specs.Map.Iter.{deref}
use Rattle.ordered_lists.specs.Lists.{intersection}
use Rattle.ordered_lists.proofs.WalkLemmas.{walk-intersection}
use Rattle.sorted_vector_set.specs.Lazy.{BothLeft, left_of, intersection_to_come}
use Rattle.sorted_vector_set.proofs.LazyLemmas.{step_shows, progress}
use Rattle.sorted_vector_set.proofs.lazy.shared.IntersectionIterator.next.Goals as goal

pub invariant_of-self : goal.invariant_of-self
invariant_of-self g c = (step_shows g.T.Ord.cmp false true false (intersection g.T.Ord.cmp) (walk-intersection g.met.T.Ord.total) _ _ _ c.next_common.ensures.steps c.self.invariant).0

pub returns-clause-steps : goal.returns-clause-steps
returns-clause-steps g c =
    let after : BothLeft g.row.T.Denot = record { own = left_of c.next_common.new.self.left; other = left_of c.next_common.new.self.right } in
    subst (λ s. YieldsFirstBy deref (intersection_to_come g.T.Ord.cmp) s c.next_common.result after) c.self.view_is
    (step_shows g.T.Ord.cmp false true false (intersection g.T.Ord.cmp) (walk-intersection g.met.T.Ord.total) _ _ _ c.next_common.ensures.steps c.self.invariant).1

pub returns-clause-goes : goal.returns-clause-goes
returns-clause-goes g c = progress deref (intersection_to_come g.T.Ord.cmp) _ _ _ (returns-clause-steps g c)
