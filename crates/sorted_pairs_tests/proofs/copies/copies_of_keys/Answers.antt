use Rattle.sorted_pairs.specs.Sources.{clones-of_listed}
use Rattle.sorted_pairs_tests.proofs.copies.copies_of_keys.Goals as goal

pub try_clone-requires : goal.try_clone-requires
try_clone-requires c = clones-of_listed _ _ (λ _ _ k. k) (λ _ _ k. k)

pub try_clone-requires-2 : goal.try_clone-requires-2
try_clone-requires-2 c = clones-of_listed _ _ (λ _ _ k. k) (λ _ _ k. k)
