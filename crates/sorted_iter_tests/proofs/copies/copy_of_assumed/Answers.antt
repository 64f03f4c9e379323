use Rattle.sorted_iter.specs.CloneSources.{clones-of_copied}
use Rattle.sorted_iter_tests.proofs.copies.copy_of_assumed.Goals as goal

pub try_clone-requires : goal.try_clone-requires
try_clone-requires c = clones-of_copied _ _ (λ _ _ k. k) (λ _ _ k. k)
