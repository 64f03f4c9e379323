use lib.ListN.{length-map}
use Rattle.std.proofs.Common.{refl, ap, map}
use Rattle.sorted_vector_map.specs.Lending.{deref_mut}
use Rattle.sorted_vector_map.proofs.LendingRuns.{comes_for_writing}
use Rattle.sorted_vector_map.proofs.map.SortedVectorMap.values_mut.Goals as goal

pub returns : goal.returns
returns g c =
    let pairs = c.iter_mut.ensures in (
      (refl, λ w. refl),
      record {
        writes_back = tt;
        values = comes_for_writing deref_mut _ _ (ap (map (λ p. p.1)) pairs.pairs.all) (rw (length-map c.iter_mut.result.rest (λ p. p.1)) pairs.pairs.countable);
      },
    )
