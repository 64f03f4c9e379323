use Rattle.std.proofs.Common.{ap, refl, arith}
use Rattle.std.proofs.lemmas.Int.{ints}
use Rattle.number_line.specs.Pieces.{in_both}
use Rattle.range_map.specs.Valued.{pairs_in_numbers}
use Rattle.blaze_joins.proofs.PlaceLemmas.{drop_there, drop_none}
use Rattle.blaze_joins.proofs.WalkSteps.{passed_all, passed_on, passed_next, turn_fewer, unwanted_both_left, unwanted_both_right, pairs_low, pairs_end, pairs_meeting, pairs_passed, pairs_begin, pairs_above, pairs_held}
use Rattle.blaze_joins.proofs.walk.Walk.next_of_both.Goals as goal

pub returns-in_err-left-clause-none : goal.returns-in_err-left-clause-none
returns-in_err-left-clause-none g c =
    let numbers = g.T.Element.numbers in
    let at = c.pieces.invariant.passed.stands in
    let left = rw (ap (pairs_in_numbers numbers) (drop_none c.pieces.self.left.now c.pieces.self.left_place c.in_err-left.ensures.lookup.3)) at at.left in
    rw c.from_residual.ensures (passed_all numbers g.V.PartialEq.eq g.W.PartialEq.eq in_both _ c.pieces.self c.pieces.invariant.passed
    (unwanted_both_left g.V.PartialEq.eq g.W.PartialEq.eq numbers.least numbers.greatest _ _ _ _ left))

pub returns-in_err-right-clause-none : goal.returns-in_err-right-clause-none
returns-in_err-right-clause-none g c =
    let numbers = g.T.Element.numbers in
    let at = c.pieces.invariant.passed.stands in
    let right = rw (ap (pairs_in_numbers numbers) (drop_none c.pieces.self.right.now c.pieces.self.right_place c.in_err-right.ensures.lookup.3)) at at.right in
    rw c.from_residual-in_err-right.ensures (passed_all numbers g.V.PartialEq.eq g.W.PartialEq.eq in_both _ c.pieces.self c.pieces.invariant.passed
    (unwanted_both_right g.V.PartialEq.eq g.W.PartialEq.eq numbers.least numbers.greatest _ _ _ _ right))

pub go_behind-requires-clause-at : goal.go_behind-requires-clause-at
go_behind-requires-clause-at g c =
    let numbers = g.T.Element.numbers in
    let left = drop_there c.pieces.self.left.now c.pieces.self.left_place c.in_ok-left.left.now c.in_ok-left.ensures.lookup.3.0 c.in_ok-left.ensures.lookup.1 in
    let right = drop_there c.pieces.self.right.now c.pieces.self.right_place c.in_ok-right.right.now c.in_ok-right.ensures.lookup.3.0 c.in_ok-right.ensures.lookup.1 in
    let least = rw (c.end.ensures.value, c.end-in-pieces.ensures.value) at c.lesser-end.ensures.either in
    (_, pairs_low numbers g.V.PartialEq.eq g.W.PartialEq.eq c.pieces.self c.pieces.invariant.passed.stands _ _ left right _ least, c.pieces.invariant.passed.stands)

pub returns-then-not-is_below-clause-meeting : goal.returns-then-not-is_below-clause-meeting
returns-then-not-is_below-clause-meeting g c =
    let numbers = g.T.Element.numbers in
    let left = drop_there c.pieces.self.left.now c.pieces.self.left_place c.in_ok-left.left.now c.in_ok-left.ensures.lookup.3.0 c.in_ok-left.ensures.lookup.1 in
    let right = drop_there c.pieces.self.right.now c.pieces.self.right_place c.in_ok-right.right.now c.in_ok-right.ensures.lookup.3.0 c.in_ok-right.ensures.lookup.1 in
    let least = rw (c.end.ensures.value, c.end-in-pieces.ensures.value) at c.lesser-end.ensures.either in
    pairs_meeting numbers g.V.PartialEq.eq g.W.PartialEq.eq c.pieces.self c.pieces.invariant.passed.stands _ _ left right _ least c.go_behind.new.self c.go_behind.ensures.start c.go_behind.ensures.left c.go_behind.ensures.right

pub returns-then-not-is_below-clause-piece : goal.returns-then-not-is_below-clause-piece
returns-then-not-is_below-clause-piece g c =
    let numbers = g.T.Element.numbers in
    let left = drop_there c.pieces.self.left.now c.pieces.self.left_place c.in_ok-left.left.now c.in_ok-left.ensures.lookup.3.0 c.in_ok-left.ensures.lookup.1 in
    let right = drop_there c.pieces.self.right.now c.pieces.self.right_place c.in_ok-right.right.now c.in_ok-right.ensures.lookup.3.0 c.in_ok-right.ensures.lookup.1 in
    let least = rw (c.end.ensures.value, c.end-in-pieces.ensures.value) at c.lesser-end.ensures.either in
    let begins = rw (c.start.ensures.value, c.start-in-pieces.ensures.value) at c.greater-start.ensures in
    rw c.new.ensures.value
    (passed_next numbers g.V.PartialEq.eq g.W.PartialEq.eq in_both _ c.pieces.self c.pieces.invariant.passed c.go_behind.new.self _ _ _
    (pairs_above numbers g.V.PartialEq.eq g.W.PartialEq.eq c.pieces.self c.pieces.invariant.passed.stands _ _ left right _ least c.pieces.invariant.meeting _ begins)
    (pairs_begin numbers g.V.PartialEq.eq g.W.PartialEq.eq c.pieces.self c.pieces.invariant.passed.stands _ _ left right _ least c.pieces.invariant.meeting _ begins)
    (rw begins (pairs_passed numbers g.V.PartialEq.eq g.W.PartialEq.eq c.pieces.self c.pieces.invariant.passed.stands _ _ left right _ least))
    (pairs_held numbers g.V.PartialEq.eq g.W.PartialEq.eq c.pieces.self c.pieces.invariant.passed.stands _ _ left right _ least c.pieces.invariant.meeting _ begins c.if-not-is_below.ensures) refl refl c.go_behind.ensures.start)

pub pieces-smaller : goal.pieces-smaller
pieces-smaller g c =
    let numbers = g.T.Element.numbers in
    let left = drop_there c.pieces.self.left.now c.pieces.self.left_place c.in_ok-left.left.now c.in_ok-left.ensures.lookup.3.0 c.in_ok-left.ensures.lookup.1 in
    let right = drop_there c.pieces.self.right.now c.pieces.self.right_place c.in_ok-right.right.now c.in_ok-right.ensures.lookup.3.0 c.in_ok-right.ensures.lookup.1 in
    let least = rw (c.end.ensures.value, c.end-in-pieces.ensures.value) at c.lesser-end.ensures.either in
    turn_fewer numbers g.V.PartialEq.eq g.W.PartialEq.eq in_both c.args.self.now c.pieces.self c.pieces.invariant.passed c.go_behind.new.self _ _ _
    (pairs_low numbers g.V.PartialEq.eq g.W.PartialEq.eq c.pieces.self c.pieces.invariant.passed.stands _ _ left right _ least)
    (pairs_end numbers g.V.PartialEq.eq g.W.PartialEq.eq c.pieces.self c.pieces.invariant.passed.stands _ _ left right _ least)
    c.go_behind.ensures.start c.go_behind.ensures.same_left c.go_behind.ensures.same_right

pub pieces-preserved : goal.pieces-preserved
pieces-preserved g c =
    let numbers = g.T.Element.numbers in
    let left = drop_there c.pieces.self.left.now c.pieces.self.left_place c.in_ok-left.left.now c.in_ok-left.ensures.lookup.3.0 c.in_ok-left.ensures.lookup.1 in
    let right = drop_there c.pieces.self.right.now c.pieces.self.right_place c.in_ok-right.right.now c.in_ok-right.ensures.lookup.3.0 c.in_ok-right.ensures.lookup.1 in
    let least = rw (c.end.ensures.value, c.end-in-pieces.ensures.value) at c.lesser-end.ensures.either in
    let begins = rw (c.start.ensures.value, c.start-in-pieces.ensures.value) at c.greater-start.ensures in
    record {
      passed = passed_on numbers g.V.PartialEq.eq g.W.PartialEq.eq in_both _ c.pieces.self c.pieces.invariant.passed c.go_behind.new.self (numbers.number c.lesser-end.result)
          (pairs_low numbers g.V.PartialEq.eq g.W.PartialEq.eq c.pieces.self c.pieces.invariant.passed.stands _ _ left right _ least)
          (λ x low high. pairs_passed numbers g.V.PartialEq.eq g.W.PartialEq.eq c.pieces.self c.pieces.invariant.passed.stands _ _ left right _ least x low (omega (arith, ints, begins, c.if-not-is_below.ensures)))
          c.go_behind.ensures.start c.go_behind.ensures.same_left c.go_behind.ensures.same_right c.go_behind.ensures.walk;
      meeting = pairs_meeting numbers g.V.PartialEq.eq g.W.PartialEq.eq c.pieces.self c.pieces.invariant.passed.stands _ _ left right _ least c.go_behind.new.self c.go_behind.ensures.start c.go_behind.ensures.left c.go_behind.ensures.right;
    }
