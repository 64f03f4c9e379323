use Rattle.sorted_iter.specs.CloneSources.{clones-of_listed}
use Rattle.sorted_iter_tests.proofs.copies.copies_of_pairs.Goals as goal

pub try_clone-requires : goal.try_clone-requires
try_clone-requires c = clones-of_listed _ _ (λ _ _ k. k) (λ _ _ k. k)

pub try_clone-requires-2 : goal.try_clone-requires-2
try_clone-requires-2 c = clones-of_listed _ _ (λ _ _ k. k) (λ _ _ k. k)
