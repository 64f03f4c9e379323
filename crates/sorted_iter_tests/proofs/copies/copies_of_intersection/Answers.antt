use Rattle.sorted_iter.specs.CloneSources.{clones-of_listed}
use Rattle.sorted_iter_tests.proofs.copies.copies_of_intersection.Goals as goal

pub try_clone-requires-clause-left : goal.try_clone-requires-clause-left
try_clone-requires-clause-left c = clones-of_listed _ _ (λ _ _ k. k) (λ _ _ k. k)

pub try_clone-requires-clause-right : goal.try_clone-requires-clause-right
try_clone-requires-clause-right c = clones-of_listed _ _ (λ _ _ k. k) (λ _ _ k. k)

pub try_clone-requires-2-clause-left : goal.try_clone-requires-2-clause-left
try_clone-requires-2-clause-left c = clones-of_listed _ _ (λ _ _ k. k) (λ _ _ k. k)

pub try_clone-requires-2-clause-right : goal.try_clone-requires-2-clause-right
try_clone-requires-2-clause-right c = clones-of_listed _ _ (λ _ _ k. k) (λ _ _ k. k)
