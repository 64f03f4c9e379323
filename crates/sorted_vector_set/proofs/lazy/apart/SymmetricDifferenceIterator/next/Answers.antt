use Rattle.std.proofs.Common.{true, false, subst}
use Rattle.std.specs.Iterator.{YieldsFirstBy}
use Rattle.std.specs.Map.Iter.{deref}
use Rattle.ordered_lists.specs.Lists.{symmetric_difference}
use Rattle.ordered_lists.proofs.WalkLemmas.{walk-symmetric_difference}
use Rattle.sorted_vector_set.specs.Lazy.{BothLeft, left_of, symmetric_difference_to_come}
use Rattle.sorted_vector_set.proofs.LazyLemmas.{step_shows, progress}
use Rattle.sorted_vector_set.proofs.lazy.apart.SymmetricDifferenceIterator.next.Goals as goal

pub invariant_of-self : goal.invariant_of-self
invariant_of-self g c = (step_shows g.T.Ord.cmp true false true (symmetric_difference g.T.Ord.cmp) (walk-symmetric_difference g.met.T.Ord.total) _ _ _ c.next.ensures.steps c.self.invariant).0

pub returns-clause-steps : goal.returns-clause-steps
returns-clause-steps g c =
    let after : BothLeft g.row.T.Denot = record { own = left_of c.next.new.self.left; other = left_of c.next.new.self.right } in
    subst (λ s. YieldsFirstBy deref (symmetric_difference_to_come g.T.Ord.cmp) s c.next.result after) c.self.view_is
    (step_shows g.T.Ord.cmp true false true (symmetric_difference g.T.Ord.cmp) (walk-symmetric_difference g.met.T.Ord.total) _ _ _ c.next.ensures.steps c.self.invariant).1

pub returns-clause-goes : goal.returns-clause-goes
returns-clause-goes g c = progress deref (symmetric_difference_to_come g.T.Ord.cmp) _ _ _ (returns-clause-steps g c)
