use Rattle.std.proofs.Common.{◌≡◌, length, arith, refl}
use Rattle.std.specs.Prelude.{Some}
use Rattle.std.specs.List.{slice_get}
use Rattle.std.proofs.lemmas.Option.{slice_get_read}
use Rattle.range_map.specs.Range.{in_numbers}
use Rattle.range_map.specs.Bounds.{ranges_of}
use Rattle.range_map.specs.Valued.{pairs_in_numbers}
use Rattle.range_map.proofs.BegunLemmas.{range_there, place_within, first_is, has_first, taken_off, one_leaves}
use Rattle.range_map.proofs.sweep.last_place.drop_ended.Goals as goal

pub bounds-pairs-place : goal.bounds-pairs-place
bounds-pairs-place g c =
    let peek = c.in-Some.ensures in
    let places = first_is _ _ peek.item.3.0 peek.lookup in
    let first = c.loop-place.invariant.begun.before _ (has_first _ places.0 _ places.1) in
    place_within g.T.Element.numbers c.args.pairs.now _ first.0 first.1

pub offset_bounds-pairs-place : goal.offset_bounds-pairs-place
offset_bounds-pairs-place g c =
    let peek = c.in-Some.ensures in
    let places = first_is _ _ peek.item.3.0 peek.lookup in
    let first = c.loop-place.invariant.begun.before _ (has_first _ places.0 _ places.1) in
    let within = place_within g.T.Element.numbers c.args.pairs.now _ first.0 first.1 in
    omega arith

pub loop-place-preserved : goal.loop-place-preserved
loop-place-preserved g c =
    let numbers = g.T.Element.numbers in
    let pairs = c.args.pairs.now in
    let ranges = ranges_of (pairs_in_numbers numbers pairs) in
    let inv = c.loop-place.invariant in
    let peek = c.in-Some.ensures in
    let places = first_is _ _ peek.item.3.0 peek.lookup in
    let first = inv.begun.before _ (has_first _ places.0 _ places.1) in
    let there : slice_get pairs c.in-Some.field-0.now ≡ Some c.index-pairs-place.result = slice_get_read pairs (length pairs) _ _ refl (place_within numbers pairs _ first.0 first.1) c.index-pairs-place.is in
    let pop = c.pop.ensures in
    let off = taken_off _ _ _ places.0 _ c.pop.result places.1 (peek.variant.0 refl) pop.none pop.top pop.permutation pop.heap_order inv.heap in
    record {
      heap = off.1;
      begun = one_leaves ranges (numbers.number c.args.x) _ _ _ _ _ off.0 (range_there numbers pairs _ _ there) (rw (c.end.ensures.value, ← c.index-pairs-place.is) at c.if-not-is_below.ensures) inv.begun;
    }

pub returns-then-not-is_below-clause-reaches : goal.returns-then-not-is_below-clause-reaches
returns-then-not-is_below-clause-reaches g c =
    let numbers = g.T.Element.numbers in
    let pairs = c.args.pairs.now in
    let peek = c.in-Some.ensures in
    let places = first_is _ _ peek.item.3.0 peek.lookup in
    let first = c.loop-place.invariant.begun.before _ (has_first _ places.0 _ places.1) in
    let there : slice_get pairs c.in-Some.field-0.now ≡ Some c.index-pairs-place.result = slice_get_read pairs (length pairs) _ _ refl (place_within numbers pairs _ first.0 first.1) c.index-pairs-place.is in
    rw places.1 (in_numbers numbers c.index-pairs-place.result.0, range_there numbers pairs _ _ there, rw (c.end.ensures.value, ← c.index-pairs-place.is) at c.if-not-is_below.ensures)
