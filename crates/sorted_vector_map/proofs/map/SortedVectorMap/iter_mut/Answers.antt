use lib.ListN.{length, length-map}
use Rattle.std.proofs.Common.{refl, sym, ap, map, arith, ◌∙◌}
use Rattle.std.specs.Map.Iter.{deref_pair_mut}
use Rattle.sorted_vector_map.specs.Slots.{pair_of}
use Rattle.sorted_vector_map.proofs.LendingRuns.{comes_for_writing}
use Rattle.sorted_vector_map.proofs.map.SortedVectorMap.iter_mut.Goals as goal

pub returns : goal.returns
returns g c =
    let lent = c.lend-lent.ensures in let vec = c.lend-lent.result.0.now in let slots = c.deref.result.now in let pairs = c.args.self.now.pairs in (
      (sym c.new.ensures.loan, λ w. refl),
      record {
        writes_back = tt;
        pairs =
            comes_for_writing deref_pair_mut _ _ (c.new.ensures.rest ∙ ap (map pair_of) c.deref.ensures.value ∙ lent.pairs)
            (omega (arith, ap length c.new.ensures.rest, length-map slots pair_of, c.deref.ensures.len, vec.ok.1, vec.small));
        ascending = lent.ascending;
      },
    )
