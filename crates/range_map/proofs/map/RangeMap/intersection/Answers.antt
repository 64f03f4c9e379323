use Rattle.number_line.specs.Parts.{parts_of_pairs, ArePairClones}
use Rattle.number_line.proofs.CloneLemmas.{clones_same, clones_values}
use Rattle.number_line.proofs.PartLemmas.{parts_canonical, value_of_parts}
use Rattle.number_line.proofs.SameLemmas.{canonical_same}
use Rattle.range_map.specs.Valued.{pairs_in_numbers}
use Rattle.range_map.proofs.map.RangeMap.intersection.Goals as goal

clones : (g : _) (c : goal.In_ok-pairs g) → ArePairClones g.V.Clone.is_clone (parts_of_pairs (pairs_in_numbers g.T.Element.numbers c.self.inside.pairs.items) c.args.set.now)
    (pairs_in_numbers g.T.Element.numbers c.in_ok-pairs.pairs.items)
clones g c = rw (← c.as_slice.ensures.value) c.in_ok-pairs.ensures.parts

pub invariant_of-result : goal.invariant_of-result
invariant_of-result g c =
    let numbers = g.T.Element.numbers in
    let same = g.V.PartialEq.eq in
    record {
      are_ranges = c.in_ok-pairs.ensures.ranges;
      canonical = canonical_same same g.met.V.Eq.laws _ _ _ _ (clones_same g.V.Clone.is_clone same c.requires _ _ (clones g c))
          (parts_canonical same numbers.greatest numbers.least numbers.greatest c.args.set.now c.ranges-2.ensures.canonical numbers.least _ c.self.invariant.canonical);
    }

pub returns-clause-canonical : goal.returns-clause-canonical
returns-clause-canonical g c = (invariant_of-result g c).canonical

pub returns-clause-values : goal.returns-clause-values
returns-clause-values g c = λ x low high.
    rw (← value_of_parts _ c.args.set.now x, ← c.self.view_is) (clones_values g.V.Clone.is_clone g.V.PartialEq.eq c.requires _ _ x (clones g c))

pub returns-clause-parts : goal.returns-clause-parts
returns-clause-parts g c = rw (← c.self.view_is) (clones g c)
