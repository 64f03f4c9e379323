use Rattle.std.proofs.Common.{refl}
use Rattle.sorted_iter.specs.PairStreams.{paired, pairs_source, pairs_steps}
use Rattle.sorted_iter.proofs.InnerCopies.{inner-alike}
use Rattle.sorted_iter.proofs.pairs.Pairs.try_clone.Goals as goal

pub returns : goal.returns
returns g c =
    let steps = g.I.Iterator.next_gives in
    inner-alike pairs_source (λ x. record { source = x }) (λ p. p.0) paired (pairs_steps steps) steps (λ _. refl) (λ _. refl) (λ _ _ _ k. k) (λ _ _ k. k) (λ _ _ _ k. k) (λ _ _ k. k) g.I.Iterator.can_next g.I.Iterator.remaining _ _
    (c.requires.alike _ _ c.in_ok-source.ensures.cases)
