use Rattle.std.proofs.Common.{refl}
use Rattle.sorted_iter.proofs.InnerCopies.{inner-alike}
use Rattle.sorted_pairs.specs.AssumedStreams.{assumed_source, assumed_steps}
use Rattle.sorted_pairs.proofs.assumed.AssumeSortedByKey.try_clone.Goals as goal

pub returns : goal.returns
returns g c =
    let steps = g.I.Iterator.next_gives in
    inner-alike assumed_source (λ x. record { source = x }) (λ x. x) (λ x. x) (assumed_steps steps) steps (λ _. refl) (λ _. refl) (λ _ _ _ k. k) (λ _ _ k. k) (λ _ _ _ k. k) (λ _ _ k. k) g.I.Iterator.can_next g.I.Iterator.remaining _ _
    (c.requires.alike _ _ c.in_ok-source.ensures.cases)
