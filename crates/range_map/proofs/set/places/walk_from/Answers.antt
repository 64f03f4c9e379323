use Rattle.std.proofs.Common.{◌∷◌, arith, ap, sym, ◌∙◌}
use Rattle.std.specs.Prelude.{◌≤ℤ◌, ◌<ℤ◌, pos, ◌+ℤ◌}
use Rattle.std.proofs.lemmas.Int.{ints}
use Rattle.number_line.specs.Ranges.{IsCanonical}
use Rattle.number_line.proofs.RangeLemmas.{from_lower}
use Rattle.range_map.specs.Range.{in_numbers}
use Rattle.range_map.specs.Set.{all_in_numbers}
use Rattle.range_map.proofs.EndLemmas.{ending_first, ending_past}
use Rattle.range_map.proofs.set.places.walk_from.Goals as goal

pub returns-then-not-is_below : goal.returns-then-not-is_below
returns-then-not-is_below g c =
    let numbers = g.T.Element.numbers in
    let n = numbers.number c.args.start in
    let first = in_numbers numbers c.in-Some.first.now in
    let is = c.in-Some.ensures.cases.0 in
    let canonical : IsCanonical numbers.least numbers.greatest (all_in_numbers numbers (c.in-Some.first.now ∷ c.in-Some.others.now)) = rw is at c.loop.invariant.canonical in
    let behind : n ≤ℤ first.1 = rw c.end.ensures.value at c.if-not-is_below.ensures in
    ap (all_in_numbers numbers) is
    ∙ (sym (ending_first n numbers.least numbers.greatest first (all_in_numbers numbers c.in-Some.others.now) canonical behind) ∙ rw is at c.loop.invariant.same)

pub loop-preserved : goal.loop-preserved
loop-preserved g c =
    let numbers = g.T.Element.numbers in
    let n = numbers.number c.args.start in
    let first = in_numbers numbers c.in-Some.first.now in
    let others = all_in_numbers numbers c.in-Some.others.now in
    let is = c.in-Some.ensures.cases.0 in
    let canonical : IsCanonical numbers.least numbers.greatest (all_in_numbers numbers (c.in-Some.first.now ∷ c.in-Some.others.now)) = rw is at c.loop.invariant.canonical in
    let before : first.1 <ℤ n = rw c.end.ensures.value at c.if-not-is_below.ensures in
    record {
      canonical = from_lower (first.1 +ℤ pos 2) numbers.least numbers.greatest others (omega (arith, ints, canonical.0, canonical.1)) canonical.3;
      same = sym (ending_past n first others before) ∙ rw is at c.loop.invariant.same;
    }
