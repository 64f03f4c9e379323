use Rattle.std.proofs.Common.{◌≡◌, refl, sym, ◌∙◌, arith}
use Rattle.std.specs.Option.{option_copied}
use Rattle.std.proofs.lemmas.Int.{ints}
use Rattle.number_line.specs.Pieces.{values_of, in_either}
use Rattle.blaze_joins.specs.PlaceView.{pairs_from}
use Rattle.blaze_joins.specs.WalkView.{first_holder, next_number}
use Rattle.blaze_joins.proofs.WalkSteps.{key_is, key_held, key_left, key_right, passed_on, passed_next, turn_fewer, either_of, none_either}
use Rattle.blaze_joins.proofs.walk.Walk.next_of_either.Goals as goal

pub go_behind-requires-clause-at : goal.go_behind-requires-clause-at
go_behind-requires-clause-at g c =
    let numbers = g.T.Element.numbers in
    let is : next_number numbers c.pieces.self.start ≡ numbers.number c.in_ok-start.start = rw c.in_ok-start.was refl in
    (_, rw is (key_held numbers g.V.PartialEq.eq g.W.PartialEq.eq c.pieces.self c.pieces.invariant.stands c.in_ok-start.start c.in_ok-start.was c.in_type.ensures.high _ _ _ c.holder_from-left.ensures.end c.holder_from-right.ensures.end c.lesser-end.ensures.either).low, c.pieces.invariant.stands)

pub go_behind-requires-clause-left : goal.go_behind-requires-clause-left
go_behind-requires-clause-left g c =
    let numbers = g.T.Element.numbers in key_left numbers g.V.PartialEq.eq g.W.PartialEq.eq c.pieces.self c.pieces.invariant.stands c.in_ok-start.start c.in_ok-start.was c.in_type.ensures.high _ _ _ c.holder_from-left.ensures.end c.holder_from-right.ensures.end c.lesser-end.ensures.either

pub go_behind-requires-clause-right : goal.go_behind-requires-clause-right
go_behind-requires-clause-right g c =
    let numbers = g.T.Element.numbers in key_right numbers g.V.PartialEq.eq g.W.PartialEq.eq c.pieces.self c.pieces.invariant.stands c.in_ok-start.start c.in_ok-start.was c.in_type.ensures.high _ _ _ c.holder_from-left.ensures.end c.holder_from-right.ensures.end c.lesser-end.ensures.either

pub new-requires : goal.new-requires
new-requires g c =
    let numbers = g.T.Element.numbers in (key_held numbers g.V.PartialEq.eq g.W.PartialEq.eq c.pieces.self c.pieces.invariant.stands c.in_ok-start.start c.in_ok-start.was c.in_type.ensures.high _ _ _ c.holder_from-left.ensures.end c.holder_from-right.ensures.end c.lesser-end.ensures.either).low

pub returns-then-is_on_either-clause-piece : goal.returns-then-is_on_either-clause-piece
returns-then-is_on_either-clause-piece g c =
    let numbers = g.T.Element.numbers in
    let is = key_is numbers g.V.PartialEq.eq g.W.PartialEq.eq c.pieces.self c.pieces.invariant.stands c.in_ok-start.start c.in_ok-start.was c.in_type.ensures.high _ _ _ c.holder_from-left.ensures.end c.holder_from-right.ensures.end c.lesser-end.ensures.either in
    let held = key_held numbers g.V.PartialEq.eq g.W.PartialEq.eq c.pieces.self c.pieces.invariant.stands c.in_ok-start.start c.in_ok-start.was c.in_type.ensures.high _ _ _ c.holder_from-left.ensures.end c.holder_from-right.ensures.end c.lesser-end.ensures.either in
    let shows : (option_copied c.holder_from-left.result.value, option_copied c.holder_from-right.result.value) ≡ values_of (
      first_holder (numbers.number c.in_ok-start.start) (pairs_from numbers c.pieces.self.left_place c.pieces.self.left.now),
      first_holder (numbers.number c.in_ok-start.start) (pairs_from numbers c.pieces.self.right_place c.pieces.self.right.now),
    ) = λ i. (c.holder_from-left.ensures.value i, c.holder_from-right.ensures.value i) in
    rw c.new.ensures.value
    (passed_next numbers g.V.PartialEq.eq g.W.PartialEq.eq in_either _ c.pieces.self c.pieces.invariant c.go_behind.new.self _ _ _ c.in_type.ensures.low (omega (arith, ints, is))
    (λ x low high. absurd (omega (arith, ints, is))) held shows (sym (either_of _ _ _ shows) ∙ sym c.if-is_on_either.ensures) c.go_behind.ensures.start)

pub pieces-smaller : goal.pieces-smaller
pieces-smaller g c =
    let numbers = g.T.Element.numbers in
    let is = key_is numbers g.V.PartialEq.eq g.W.PartialEq.eq c.pieces.self c.pieces.invariant.stands c.in_ok-start.start c.in_ok-start.was c.in_type.ensures.high _ _ _ c.holder_from-left.ensures.end c.holder_from-right.ensures.end c.lesser-end.ensures.either in
    turn_fewer numbers g.V.PartialEq.eq g.W.PartialEq.eq in_either c.args.self.now c.pieces.self c.pieces.invariant c.go_behind.new.self _ _ _ (omega (arith, ints, is))
    (key_held numbers g.V.PartialEq.eq g.W.PartialEq.eq c.pieces.self c.pieces.invariant.stands c.in_ok-start.start c.in_ok-start.was c.in_type.ensures.high _ _ _ c.holder_from-left.ensures.end c.holder_from-right.ensures.end c.lesser-end.ensures.either) c.go_behind.ensures.start c.go_behind.ensures.same_left c.go_behind.ensures.same_right

pub pieces-preserved : goal.pieces-preserved
pieces-preserved g c =
    let numbers = g.T.Element.numbers in
    let is = key_is numbers g.V.PartialEq.eq g.W.PartialEq.eq c.pieces.self c.pieces.invariant.stands c.in_ok-start.start c.in_ok-start.was c.in_type.ensures.high _ _ _ c.holder_from-left.ensures.end c.holder_from-right.ensures.end c.lesser-end.ensures.either in
    let held = key_held numbers g.V.PartialEq.eq g.W.PartialEq.eq c.pieces.self c.pieces.invariant.stands c.in_ok-start.start c.in_ok-start.was c.in_type.ensures.high _ _ _ c.holder_from-left.ensures.end c.holder_from-right.ensures.end c.lesser-end.ensures.either in
    let shows : (option_copied c.holder_from-left.result.value, option_copied c.holder_from-right.result.value) ≡ values_of (
      first_holder (numbers.number c.in_ok-start.start) (pairs_from numbers c.pieces.self.left_place c.pieces.self.left.now),
      first_holder (numbers.number c.in_ok-start.start) (pairs_from numbers c.pieces.self.right_place c.pieces.self.right.now),
    ) = λ i. (c.holder_from-left.ensures.value i, c.holder_from-right.ensures.value i) in
    passed_on numbers g.V.PartialEq.eq g.W.PartialEq.eq in_either _ c.pieces.self c.pieces.invariant c.go_behind.new.self (numbers.number c.lesser-end.result) (rw is held.low)
    (rw is (none_either _ _ _ shows _ _ _ _ held (sym c.if-is_on_either.ensures))) c.go_behind.ensures.start c.go_behind.ensures.same_left c.go_behind.ensures.same_right c.go_behind.ensures.walk
