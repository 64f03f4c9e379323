use Rattle.std.proofs.Common.{◌≡◌, length, arith, refl, sym, subst}
use Rattle.std.proofs.lemmas.Int.{ints}
use Rattle.std.proofs.lemmas.List.{nil_from_length}
use Rattle.std.proofs.lemmas.Option.{slice_get_read}
use Rattle.range_map.specs.Begun.{AreBegun}
use Rattle.range_map.specs.Range.{in_numbers}
use Rattle.range_map.specs.Bounds.{ranges_of}
use Rattle.range_map.specs.Valued.{pairs_in_numbers}
use Rattle.range_map.proofs.BegunLemmas.{range_there, place_within, first_is, has_first, begun_on, first_reaches, none_is_last, greatest_is_last}
use Rattle.range_map.proofs.sweep.last_place.LastPlace.enter.Goals as goal
use Rattle.range_map.proofs.sweep.last_place.LastPlace.enter.Goals.{in-None, in-Some, then-is_below, else-is_below}

pub drop_ended-requires-clause-begun : goal.drop_ended-requires-clause-begun
drop_ended-requires-clause-begun g c =
    let ranges = ranges_of (pairs_in_numbers g.T.Element.numbers c.args.pairs.now) in
    subst (λ begun. AreBegun ranges (g.T.Element.numbers.number c.args.x) begun) (sym c.self.view_is) (c.begin_up_to.ensures.begun ranges c.requires)

pub bounds-pairs-place : goal.bounds-pairs-place
bounds-pairs-place g c =
    let peek = c.in-Some.ensures in
    let places = first_is _ _ peek.item.3.0 peek.lookup in
    let first = c.drop_ended.ensures.begun.before _ (has_first _ places.0 _ places.1) in
    place_within g.T.Element.numbers c.args.pairs.now _ first.0 first.1

pub offset_bounds-pairs-place : goal.offset_bounds-pairs-place
offset_bounds-pairs-place g c =
    let peek = c.in-Some.ensures in
    let places = first_is _ _ peek.item.3.0 peek.lookup in
    let first = c.drop_ended.ensures.begun.before _ (has_first _ places.0 _ places.1) in
    let within = place_within g.T.Element.numbers c.args.pairs.now _ first.0 first.1 in
    omega arith

pub returns-in_err-begin_up_to-clause-goes_on : goal.returns-in_err-begin_up_to-clause-goes_on
returns-in_err-begin_up_to-clause-goes_on g c =
    let ranges = ranges_of (pairs_in_numbers g.T.Element.numbers c.args.pairs.now) in
    λ n h. begun_on ranges (g.T.Element.numbers.number c.args.x) n _ h (c.begin_up_to.ensures.begun ranges c.requires)

pub returns-clause-goes_on : goal.returns-clause-goes_on
returns-clause-goes_on g c =
    let numbers = g.T.Element.numbers in
    let ranges = ranges_of (pairs_in_numbers numbers c.args.pairs.now) in
    elim c.match-peek.branch [
      | in-None w ↦ rw w.self-inside-is (λ n h. begun_on ranges (numbers.number c.args.x) n _ h c.drop_ended.ensures.begun)
      | in-Some w ↦ rw w.self-inside-is (λ n h. begun_on ranges (numbers.number c.args.x) n _ h c.drop_ended.ensures.begun)
    ]

pub returns-clause-last : goal.returns-clause-last
returns-clause-last g c =
    let numbers = g.T.Element.numbers in
    let pairs = c.args.pairs.now in
    let ranges = ranges_of (pairs_in_numbers numbers pairs) in
    let x = numbers.number c.args.x in
    let before = c.end_before-before.ensures in
    let begun = c.drop_ended.ensures.begun in
    elim c.match-peek.branch [
      | in-None w ↦
          let none = w.in-None.ensures.item.3 in
          rw w.result-is (none_is_last ranges x _ _ _ begun before.behind (nil_from_length _ (omega arith)) before.order)
      | in-Some w ↦
          let peek = w.in-Some.ensures in
          let places = first_is _ _ peek.item.3.0 peek.lookup in
          let first = begun.before _ (has_first _ places.0 _ places.1) in
          let pair = w.index-pairs-place.result in
          let there = range_there numbers pairs _ _ (slice_get_read pairs (length pairs) _ pair refl (place_within numbers pairs _ first.0 first.1) w.index-pairs-place.is) in
          let last : numbers.number w.end-last.result ≡ numbers.number pair.0.1 = rw (w.end-last.ensures.value, ← w.index-pairs-place.is) refl in
          let reaches = first_reaches ranges x _ _ _ (in_numbers numbers pair.0) places.1 c.drop_ended.ensures.reaches there in
          let upper = peek.greatest c.drop_ended.ensures.heap in
          elim w.if-is_below.branch [
            | then-is_below v ↦ rw (w.result-is, v.end-is) (greatest_is_last ranges x _ _ _ begun before.behind _ places.0 _ places.1 upper (in_numbers numbers pair.0) there
                (omega (arith, ints)) (omega (arith, ints, v.if-is_below.ensures)) (omega (arith, ints)))
            | else-is_below v ↦ rw (w.result-is, v.end-is) (greatest_is_last ranges x _ _ _ begun before.behind _ places.0 _ places.1 upper (in_numbers numbers pair.0) there
                before.order (omega (arith, ints)) (omega (arith, ints, v.if-is_below.ensures)))
          ]
    ]
